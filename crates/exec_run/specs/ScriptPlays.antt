-- A body does what its script says.
use Rattle.std.{proofs.{Common.{◌≡◌, ℕ, zero, suc, ◌+◌, ◌%◌, ◌<◌, ◌≤◌, ◌^◌, Bool, true, false, List, [], ◌∷◌, All, drop, length, map, Option, Some, None, refl, sym, ap, subst, ◌∙◌, arith, slice_index_or}, lemmas.{Bool.true≢false, List.{get_or-drop, Elements.All-tail}, Option.none-some}}, specs.Prelude.if◌then◌else◌}
use Rattle.exec_base.specs.declared.error.Error.TheVariants.{NoMemory}
use Rattle.exec_machine.specs.{declared.{config.{Configuration.Configuration, ScriptWord.{ScriptWord, ScriptWord as word}}, state.Code.{Code, TheVariants.{Root, Script, Waits}}}, World.{Task, Common, Open, no_open}, Tests.is_empty, Words.{is_idle_word, idle_words, words_left, next_word, moved_on}, Progress.Plan}
use Rattle.exec_outcomes.specs.Accounts.{Account, fresh_account}
use Rattle.exec_parts.specs.{Spots.{Spot, standing_at, spot_of}, Scripts.{Asks, Covers, IsAnswer, IsAnswered, IsBorn, IsCodeOf, IsNamed, IsSeen, MakesBody, MayRunScript, is_last, held_after, StepPlays, Plays}}
use Rattle.exec_request.specs.Requests.{target_of}
use Rattle.exec_run.specs.{declared.script.Asked.Asked, Asking.IsInTime, Script.{Played, Begets, CanPlay, CoversBy, IsNumbered, IsProgram, held_by, held_told, itself, name_of, number_of, place_after, place_by, place_in, script_begun, spot_told, is_passed, passed_over, word_at, word_in, word_of_wait, words_of, asked_by, StepsTo, gives, Runs}}
use Rattle.exec_task.specs.{Sight.Sight, declared.body.{Act.{Act, Act as act}, Said.{Said, Said as said}}}

-- THE NEXT WORD

idle_word : (s : Common) (t : Task) (w : ScriptWord) → is_idle_word s t w ≡ is_passed (is_empty t.held) (length s.tasks) w
idle_word = grind arith

idle_all : (s : Common) (t : Task) (words : List ScriptWord) → idle_words s t words ≡ passed_over (is_empty t.held) (length s.tasks) words
idle_all s t [] = refl
idle_all s t (w ∷ words) = rw (idle_word s t w, idle_all s t words) refl

-- of a task that has these words left
next_in : (s : Common) (t : Task) (words : List ScriptWord) (place : ℕ) → words_left s t ≡ drop place words
    → next_word s t ≡ word_at words (place + passed_over (is_empty t.held) (length s.tasks) (drop place words))
next_in = grind (arith, idle_all, get_or-drop)

-- a task that is at this place of its script, and holds these
abbrev at_place : Code → ℕ → List ℕ → Task → Task
at_place c place held u = record (standing_at (let at : Spot = record { code = c; place = place_in c place; adapters = []; call = None } in at) u) { held = held }

wait_passes : (s : Common) (t : Task) (b : Bool) → idle_words s t (word_of_wait b ∷ []) ≡ 0
wait_passes = grind arith

next_is : (c : Code) (p : Plan) (s : Common) (words : List ScriptWord) (place : ℕ) (held : List ℕ) (u : Task) → words ≡ words_of c p → s.scripts ≡ p.scripts → s.root ≡ p.root
    → next_word s (at_place c place held u) ≡ word_in c words s.stopped (place + passed_over (is_empty held) (length s.tasks) (drop place words))
next_is Root p s words place held u are scripts root = next_in s (at_place Root place held u) words place (ap (drop place) (root ∙ sym are))
next_is (Script k) p s words place held u are scripts root =
    next_in s (at_place (Script k) place held u) words place (ap (drop place) (ap (λ (xs : List (List ScriptWord)). slice_index_or xs k []) scripts ∙ sym are))
next_is Waits p s words place held u are scripts root =
    ap (λ (k : ℕ). slice_index_or (word_of_wait s.stopped ∷ []) k word.End) (wait_passes s (at_place Waits place held u) s.stopped)

can_play_at : (many : ℕ) (words : List ScriptWord) (n : ℕ) → All (CanPlay many) words → CanPlay many (word_at words n)
can_play_at many [] zero can = tt
can_play_at many [] (suc n) can = tt
can_play_at many (w ∷ words) zero can = can 0 w (omega arith)
can_play_at many (w ∷ words) (suc n) can = can_play_at many words n (All-tail (CanPlay many) w words can)

can_play_in : (c : Code) (many : ℕ) (words : List ScriptWord) (stopped : Bool) (n : ℕ) → All (CanPlay many) words → CanPlay many (word_in c words stopped n)
can_play_in Waits many words stopped n can = grind arith
can_play_in c many words stopped n can = can_play_at many words n can

words_play : (many : ℕ) (scripts : List (List ScriptWord)) (k : ℕ) → All (All (CanPlay many)) scripts → All (CanPlay many) (slice_index_or scripts k [])
words_play many [] zero can = λ i d l. absurd (let none : i < 0 = l in omega arith)
words_play many [] (suc k) can = λ i d l. absurd (let none : i < 0 = l in omega arith)
words_play many (ws ∷ scripts) zero can = can 0 ws (omega arith)
words_play many (ws ∷ scripts) (suc k) can = words_play many scripts k (All-tail (All (CanPlay many)) ws scripts can)

-- THE ACT

-- past its words a script ends
at_the_end : (c : Configuration) (moment : ℕ) (held : List ℕ) (a : Act Played) → Asks c moment held word.End a → is_last a ≡ true
at_the_end = grind (arith, none-some)

-- a body that isn't through is not past its words
inside : (c : Configuration) (moment : ℕ) (held : List ℕ) (words : List ScriptWord) (n : ℕ) (a : Act Played) → Asks c moment held (word_at words n) a → is_last a ≡ false → n < length words
inside c moment held [] zero a asks going = absurd (true≢false (sym (at_the_end c moment held a asks) ∙ going))
inside c moment held [] (suc n) a asks going = absurd (true≢false (sym (at_the_end c moment held a asks) ∙ going))
inside c moment held (w ∷ words) zero a asks going = omega arith
inside c moment held (w ∷ words) (suc n) a asks going = let l = inside c moment held words n a asks going in omega arith

-- what is seen of the opens is what the machine has
account_at : (opens : List Open) (file : ℕ) → slice_index_or (map (λ o. o.account) opens) file fresh_account ≡ (slice_index_or opens file no_open).account
account_at [] zero = refl
account_at [] (suc file) = refl
account_at (o ∷ opens) zero = refl
account_at (o ∷ opens) (suc file) = account_at opens file

covers_so : (s : Common) (it : Sight) (a : Act Played) → it.opens ≡ map (λ o. o.account) s.opens → CoversBy it a → Covers s a
covers_so s it (act.Register r) same covers =
    λ durable. covers durable ∙ ap (λ (x : Account). x.mutations) (ap (λ xs. slice_index_or xs (target_of r) fresh_account) same ∙ account_at s.opens (target_of r))
covers_so s it a same covers = tt

-- WHERE IT STANDS, AND WHAT IT HOLDS

-- at this place of its script
abbrev at_spot : Code → ℕ → Spot
at_spot c place = record { code = c; place = place_in c place; adapters = []; call = None }

pub script_answered : IsAnswered spot_told
script_answered = grind (arith)

heard : (a : Act Played) (answer : Said) (q : Asked) (held : List ℕ) → IsAnswer a answer → q ≡ asked_by a → held_by q held answer ≡ held_after a answer held
heard = grind arith

unheard : (q : Asked) (held : List ℕ) → held_by q held (said.Refused NoMemory) ≡ held
unheard = grind arith

-- where it stands by itself after this act
place_alone : (a : Act Played) (place before : ℕ) → place_after (asked_by a) place before None ≡ (if is_last a then before else place)
place_alone = grind arith

place_refused : (a : Act Played) (place before : ℕ) → place_after (asked_by a) place before (Some (said.Refused NoMemory)) ≡ before
place_refused = grind arith

-- it stands where the machine's task does, once that is past its word
stands_on : (c : Code) (s : Common) (words : List ScriptWord) (place next : ℕ) (held : List ℕ) (u : Task) → words_left s (at_place c place held u) ≡ drop place words
    → next ≡ place + passed_over (is_empty held) (length s.tasks) (drop place words) + 1 → at_spot c next ≡ spot_of (moved_on s (at_place c place held u))
stands_on = grind (arith, idle_all)

-- ITS LAW

-- a body at this place of its script, which makes this act
record IsStep (c : Code) (p : Plan) (s : Common) (words : List ScriptWord) (place next : ℕ) (held : List ℕ) (u : Task) (moment many : ℕ) (a : Act Played) : Type 0 where
  pub are : words ≡ words_of c p
  pub scripts : s.scripts ≡ p.scripts
  pub root : s.root ≡ p.root
  pub asks : Asks p.config moment held (word_in c words s.stopped (place + passed_over (is_empty held) (length s.tasks) (drop place words))) a
  pub past : (let here : ℕ = place + passed_over (is_empty held) (length s.tasks) (drop place words) in here) < length words → next ≡ place + passed_over (is_empty held) (length s.tasks) (drop place words) + 1

stands_past : (c : Code) (p : Plan) (s : Common) (words : List ScriptWord) (place next : ℕ) (held : List ℕ) (u : Task) (moment many : ℕ) (a : Act Played) → IsStep c p s words place next held u moment many a → is_last a ≡ false
    → at_spot c next ≡ spot_of (moved_on s (at_place c place held u))
stands_past Root p s words place next held u moment many a it going =
    stands_on Root s words place next held u (ap (drop place) (it.root ∙ sym it.are)) (it.past (inside p.config moment held words _ a it.asks going))
stands_past (Script k) p s words place next held u moment many a it going =
    stands_on (Script k) s words place next held u (ap (drop place) (ap (λ (xs : List (List ScriptWord)). slice_index_or xs k []) it.scripts ∙ sym it.are)) (it.past (inside p.config moment held words _ a it.asks going))
stands_past Waits p s words place next held u moment many a it going = refl

stands_by : (c : Code) (p : Plan) (s : Common) (words : List ScriptWord) (place next : ℕ) (held : List ℕ) (u : Task) (moment many : ℕ) (a : Act Played) → IsStep c p s words place next held u moment many a → (last : Bool) → is_last a ≡ last
    → at_spot c (if last then place else next) ≡ (if last then spot_of (at_place c place held u) else spot_of (moved_on s (at_place c place held u)))
stands_by c p s words place next held u moment many a it true is = refl
stands_by c p s words place next held u moment many a it false is = stands_past c p s words place next held u moment many a it is

-- the body that it makes
script_code : (workers k : ℕ) (home : Option ℕ) → MayRunScript workers home → IsCodeOf workers home (Script k)
script_code = grind arith

pub born : (p : Plan) (l : Played) (k : ℕ) → IsProgram l.scripts l.limits p → k < length p.scripts → IsBorn Runs held_told spot_told p k (script_begun l.scripts l.limits k)
born p l k program within = record {
  runs_it = λ home may. record {
    code = script_code p.config.workers k home may;
    numbered = within;
    words = ap (λ (xs : List (List ScriptWord)). slice_index_or xs k []) program.scripts_are;
    program = program;
    playable = subst (λ (xs : List (List ScriptWord)). All (CanPlay (length p.scripts)) (slice_index_or xs k [])) (sym program.scripts_are) (words_play (length p.scripts) p.scripts k program.playable);
  };
  begins = refl;
  holding = refl;
}

makes_body : (p : Plan) (l : Played) (w : ScriptWord) (a : Act Played) → IsProgram l.scripts l.limits p → CanPlay (length p.scripts) w → Begets l w a → MakesBody itself Runs held_told spot_told p w a
makes_body p l w (act.Spawn b) program can begets =
    λ k is. subst (λ (x : Played). IsBorn Runs held_told spot_told p k x) (sym (begets k is)) (born p l k program (subst (CanPlay (length p.scripts)) is can))
makes_body p l w (act.Dedicated b) program can begets =
    λ k is. subst (λ (x : Played). IsBorn Runs held_told spot_told p k x) (sym (begets k is)) (born p l k program (subst (CanPlay (length p.scripts)) is can))
makes_body p l w a program can begets = tt

plays_at : (p : Plan) (s : Common) (u : Task) (it : Sight) (l l' : Played) (told : Said) (a : Act Played) → Runs l p u.home → s.scripts ≡ p.scripts → s.root ≡ p.root → IsSeen it s → StepsTo l it told a l'
    → StepPlays itself Runs held_told spot_told gives p s (at_place l.code (place_by l told) (held_by l.asked l.held told) u) it.moment a l'
plays_at p s u it l l' told a runs scripts root seen step =
    let held = held_by l.asked l.held told in
    let place = place_by l told in
    let t = at_place l.code place held u in
    let few : it.tasks ≤ 2 ^ 32 = subst (λ n. n ≤ 2 ^ 32) (sym seen.tasks) seen.few in
    let here : step.place ≡ place + passed_over (is_empty held) (length s.tasks) (drop place l.words) = step.here few ∙ ap (λ n. place + passed_over (is_empty held) n (drop place l.words)) seen.tasks in
    let many : length l.scripts ≡ length p.scripts = ap length runs.program.scripts_are in
    let can : CanPlay (length l.scripts) (word_in l.code l.words it.stopped step.place) =
    subst (λ n. CanPlay n (word_in l.code l.words it.stopped step.place)) (sym many) (can_play_in l.code (length p.scripts) l.words it.stopped step.place runs.playable) in
    let word_is : word_in l.code l.words it.stopped step.place ≡ word_in l.code l.words s.stopped (place + passed_over (is_empty held) (length s.tasks) (drop place l.words)) =
    ap (λ b. word_in l.code l.words b step.place) seen.stopped ∙ ap (word_in l.code l.words s.stopped) here in
    let next : word_in l.code l.words it.stopped step.place ≡ next_word s t = word_is ∙ sym (next_is l.code p s l.words place held u runs.words scripts root) in
    let program = runs.program in
    let in_time : IsInTime it.moment l.limits = record { rw = omega (arith, program.rw_is, program.rw_within, seen.early); connect = omega (arith, program.connect_is, program.connect_within, seen.early) } in
    let so = step.asks few can in_time in
    let asks : Asks p.config it.moment held (word_in l.code l.words it.stopped step.place) a = so.asks p.config (sym program.rw_is) (sym program.connect_is) in
    let code : l'.code ≡ l.code = ap (λ (x : Played). x.code) step.rest in
    let kind : l'.asked ≡ asked_by a = ap (λ (x : Played). x.asked) step.rest in
    let holds : l'.held ≡ held = ap (λ (x : Played). x.held) step.rest in
    let before : l'.before ≡ place = ap (λ (x : Played). x.before) step.rest in
    let by : IsStep l.code p s l.words place l'.place held u it.moment (length p.scripts) a = record {
      are = runs.words;
      scripts = scripts;
      root = root;
      asks = subst (λ (w : ScriptWord). Asks p.config it.moment held w a) word_is asks;
      past = λ within. step.past (subst (λ n. n < length l.words) (sym here) within) ∙ ap (λ k. k + 1) here;
    } in
    record {
      asks = subst (λ (w : ScriptWord). Asks p.config it.moment held w a) next asks;
      makes = subst (λ (w : ScriptWord). MakesBody itself Runs held_told spot_told p w a) next (makes_body p l _ a runs.program (subst (λ n. CanPlay n (word_in l.code l.words it.stopped step.place)) many can) (step.begets can));
      stands = ap (λ c. at_spot c (place_after l'.asked l'.place l'.before None)) code
          ∙ ap (at_spot l.code) (ap (λ q. place_after q l'.place l'.before None) kind ∙ place_alone a l'.place l'.before ∙ ap (λ b. if is_last a then b else l'.place) before)
          ∙ stands_by l.code p s l.words place l'.place held u it.moment (length p.scripts) a by (is_last a) refl;
      covers = covers_so s it a seen.opens so.covers;
      code = runs.code;
      goes_on = λ going. record {
        runs_on = record {
          code = subst (IsCodeOf p.config.workers u.home) (sym code) runs.code;
          numbered = subst (λ c. IsNumbered c (length p.scripts)) (sym code) runs.numbered;
          words = ap (λ (x : Played). x.words) step.rest ∙ runs.words ∙ ap (λ c. words_of c p) (sym code);
          program = subst (λ (xs : List (List ScriptWord)). IsProgram xs l'.limits p) (sym (ap (λ (x : Played). x.scripts) step.rest)) (subst (λ n. IsProgram l.scripts n p) (sym (ap (λ (x : Played). x.limits) step.rest)) runs.program);
          playable = subst (All (CanPlay (length p.scripts))) (sym (ap (λ (x : Played). x.words) step.rest)) runs.playable;
        };
        holding = λ answer is. heard a answer l'.asked l'.held is kind ∙ ap (held_after a answer) holds;
        refused = ap (λ c. at_spot c (place_after l'.asked l'.place l'.before (Some (said.Refused NoMemory)))) code
            ∙ ap (at_spot l.code) (ap (λ q. place_after q l'.place l'.before (Some (said.Refused NoMemory))) kind ∙ place_refused a l'.place l'.before ∙ before);
        refused_holding = unheard l'.asked l'.held ∙ holds;
      };
    }

pub script_plays : Plays itself Runs held_told spot_told gives
script_plays p s t sight sight' l l' told a runs scripts root seen given stands holds =
    subst (λ (x : Task). StepPlays itself Runs held_told spot_told gives p s x sight.moment a l')
    (ap (λ (xs : List ℕ). record (standing_at (spot_told l (Some told)) t) { held = xs }) holds ∙ ap (λ (x : Spot). standing_at x t) stands)
    (plays_at p s t sight l l' told a runs scripts root seen given.1)

-- its name is the number of its script
pub script_named : IsNamed Runs spot_told name_of
script_named p l k runs begins =
    let code : l.code ≡ Script k = ap (λ (x : Spot). x.code) begins in
    let within : k < length p.scripts = subst (λ c. IsNumbered c (length p.scripts)) code runs.numbered in
    ap (λ c. number_of c % 2 ^ 32) code ∙ small k (omega (arith, runs.program.few, within))
  where
    small : (n : ℕ) → n < 2 ^ 32 → n % 2 ^ 32 ≡ n
    small n l = grind arith
