-- The words of a script, and the acts of words.
use Rattle.std.proofs.Common.{◌≡◌, ℕ, zero, suc, ◌+◌, ◌<◌, Bool, true, false, List, [], ◌∷◌, drop, refl, sym, ap, ◌∙◌, arith, ◌≤◌, ◌^◌, not, Option, Some, None, IfSome, IfNone, is_some, IsTrue, slice_get, length, subst}
use Rattle.exec_run.{proofs.{Names.{cases_Bool, leb-false, get_or-drop, ScriptWord, Code, true≢false, none-some, Request, Sight, WouldGrow, Act, Register, Said, is_empty}, Wanted.{any_request, some_request}}, specs.{Script.{is_passed, passed_over, word_at, word_in, word_of_wait, Played, Begets, CanPlay, newest, held_by, place_by, gives, asked_by, AsksFor, IsPlainActOf}, Asking.{asks_request, moves_bytes, CanAsk, IsInTime, IsRequestOf}, declared.{asking.Limits.Limits, script.{Asked.{Asked as Question}}}}}
use Rattle.exec_machine.specs.declared.config.ScriptWord.TheVariants as word

-- The words of a script: which of them are passed over.

-- one word is passed over, and then those behind it
pub skips : (none : Bool) (tasks : ℕ) (words : List ScriptWord) (place : ℕ) → is_passed none tasks (word_at words place) ≡ true → passed_over none tasks (drop place words) ≡ suc (passed_over none tasks (drop (suc place) words))
skips none tasks [] place h = grind arith
skips none tasks (w ∷ words) zero h = rw h refl
skips none tasks (w ∷ words) (suc place) h = skips none tasks words place h

-- so as many are passed over from there on as before
pub goes_on : (none : Bool) (tasks : ℕ) (words : List ScriptWord) (place all : ℕ) → is_passed none tasks (word_at words place) ≡ true → place + passed_over none tasks (drop place words) ≡ all
    → place + 1 + passed_over none tasks (drop (place + 1) words) ≡ all
goes_on none tasks words place all passes so_far =
    let one = skips none tasks words place passes in
    let next : suc place ≡ place + 1 = omega arith in
    let same = ap (λ k. passed_over none tasks (drop k words)) next in
    omega (arith, one, so_far, same)

-- THE WORD THAT WAS FOUND is not passed over

not_passed : (none : Bool) (tasks : ℕ) (words : List ScriptWord) → is_passed none tasks (word_at words (passed_over none tasks words)) ≡ false
not_passed none tasks [] = refl
not_passed none tasks (w ∷ words) = grind (arith, cases_Bool, not_passed none tasks words)

wait_not_passed : (none : Bool) (tasks : ℕ) (stopped : Bool) → is_passed none tasks (word_of_wait stopped) ≡ false
wait_not_passed = grind arith

found_at : (none : Bool) (tasks : ℕ) (words : List ScriptWord) (place : ℕ) → is_passed none tasks (word_at words (place + passed_over none tasks (drop place words))) ≡ false
found_at none tasks words place =
    ap (is_passed none tasks) (sym (get_or-drop place words (passed_over none tasks (drop place words)) word.End)) ∙ not_passed none tasks (drop place words)

pub found : (c : Code) (words : List ScriptWord) (stopped none : Bool) (tasks place : ℕ) → is_passed none tasks (word_in c words stopped (place + passed_over none tasks (drop place words))) ≡ false
found = grind (arith, found_at, wait_not_passed)

pub there_of : (none : Bool) (tasks task : ℕ) → is_passed none tasks (word.Wake task) ≡ false → task < tasks
there_of none tasks task h = leb-false tasks task h

-- what is known of a word that was found, and of the act that was made of it
pub record IsPlainly (scripts : List (List ScriptWord)) (limits : Limits) (held : List ℕ) (w : ScriptWord) (a : Act Played) : Type 0 where
  pub drops : w ≡ word.Drop → newest held ≡ None → ⊥
  pub wakes : (t : ℕ) → w ≡ word.Wake t → t < 2 ^ 32
  pub none : asks_request w ≡ false
  pub is : CanPlay (length scripts) w → IsPlainActOf scripts limits w (newest held) a

act_asked : (scripts : List (List ScriptWord)) (it : Sight) (limits : Limits) (held : List ℕ) (w : ScriptWord) (a : Act Played) → CanPlay (length scripts) w → IsPlainly scripts limits held w a → AsksFor it limits held w a
act_asked = grind arith

-- THE NEXT WORD

some_within : (held : List ℕ) (k : ℕ) → k < length held → is_some (slice_get held k) ≡ true
some_within [] k l = absurd (omega arith)
some_within (r ∷ held) zero l = refl
some_within (r ∷ held) (suc k) l = some_within held k (omega arith)

pub newest_is : (held : List ℕ) → not (is_some (newest held)) ≡ is_empty held
newest_is = grind (arith, some_within)

-- what is known of a step before its act is made
pub record IsNext (s : Played) (told : Said) (sees : Option Sight) (at : ℕ) (holds : Bool) (w : ScriptWord) : Type 0 where
  pub holds_some : holds ≡ is_some (newest (held_by s.asked s.held told))
  pub place : (it : Sight) → sees ≡ Some it → it.tasks ≤ 2 ^ 32 → at ≡ place_by s told + passed_over (not holds) it.tasks (drop (place_by s told) s.words)
  pub word_is : (it : Sight) → sees ≡ Some it → w ≡ word_in s.code s.words it.stopped at

-- the script past the word
abbrev pub stepped : Played → Said → Act Played → ℕ → Played
stepped s told a next = record s { place = next; before = place_by s told; held = held_by s.asked s.held told; asked = asked_by a }

pub steps : (s s' : Played) (told : Said) (sees : Option Sight) (at next : ℕ) (holds : Bool) (w : ScriptWord) (a : Act Played) → IsNext s told sees at holds w
    → ((it : Sight) → sees ≡ Some it → it.tasks ≤ 2 ^ 32 → CanPlay (length s.scripts) w → IsInTime it.moment s.limits → AsksFor it s.limits (held_by s.asked s.held told) w a) → (CanPlay (length s.scripts) w → Begets s w a)
    → (at < length s.words → next ≡ at + 1) → s' ≡ stepped s told a next → gives s sees told a s' sees
steps s s' told None at next holds w a it asks begets past is = (refl, tt)
steps s s' told (Some seen) at next holds w a it asks begets past is = (
  refl,
  record {
    place = at;
    here = λ few. it.place seen refl few ∙ ap (λ none. place_by s told + passed_over none seen.tasks (drop (place_by s told) s.words)) (ap not it.holds_some ∙ newest_is (held_by s.asked s.held told));
    asks = λ few.
        subst (λ v. CanPlay (length s.scripts) v → IsInTime seen.moment s.limits → AsksFor seen s.limits (held_by s.asked s.held told) v a) (it.word_is seen refl) (asks seen refl few);
    begets = λ can. subst (λ v. Begets s v a) (it.word_is seen refl) (begets (subst (CanPlay (length s.scripts)) (sym (it.word_is seen refl)) can));
    past = λ l. ap (λ (x : Played). x.place) is ∙ past l;
    rest = is ∙ ap (stepped s told a) (sym (ap (λ (x : Played). x.place) is));
  },
)

-- its bounds as a word that asks
can_ask : (many : ℕ) (w : ScriptWord) → CanPlay many w → CanAsk w
can_ask = grind arith

registers : (it : Sight) (limits : Limits) (held : List ℕ) (w : ScriptWord) (r : Request) → IsRequestOf it limits w r → AsksFor it limits held w (Register r)
registers it limits held w r is = record {
  covers = is.covers;
  asks = λ c rw_is connect_is. let x = is.wanted c rw_is connect_is in (x.2.plain, x.0, x.1, x.2.fits);
}

-- a request that the word asks for, by what is seen
abbrev pub Wanted : Option Sight → Limits → ScriptWord → Type 0
Wanted sees limits w = (r : Request) × ((it : Sight) → sees ≡ Some it → CanAsk w → IsRequestOf it limits w r)

pub some_wanted : (sees : Option Sight) (limits : Limits) (w : ScriptWord) → moves_bytes w ≡ true → Wanted sees limits w
some_wanted None limits w moves = (any_request, λ it is. absurd (none-some _ is))
some_wanted (Some x) limits w moves =
    let one = some_request x limits w moves in
    (one.0, λ it is can. let same : x ≡ it = cc in subst (λ y. IsRequestOf y limits w one.0) same (one.1 can))

pub would_grow : (s : Played) (told : Said) (sees : Option Sight) (at : ℕ) (holds : Bool) (w : ScriptWord) → IsNext s told sees at holds w → Wanted sees s.limits w → WouldGrow gives s sees told
would_grow s told sees at holds w it wanted = record {
  act = Register wanted.0;
  left_then = stepped s told (Register wanted.0) (at + 1);
  sight_then = sees;
  given = steps s (stepped s told (Register wanted.0) (at + 1)) told sees at (at + 1) holds w (Register wanted.0) it
      (λ x is few can in_time. registers x s.limits (held_by s.asked s.held told) w wanted.0 (wanted.1 x is (can_ask (length s.scripts) w can))) (λ can. tt) (λ l. refl) refl;
  grown = refl;
}

-- the word that was found isn't passed over
not_idle : (s : Played) (told : Said) (sees : Option Sight) (at : ℕ) (holds : Bool) (w : ScriptWord) → IsNext s told sees at holds w → (it : Sight) → sees ≡ Some it → it.tasks ≤ 2 ^ 32 → is_passed (not holds) it.tasks w ≡ false
not_idle s told sees at holds w next it is few =
    ap (is_passed (not holds) it.tasks) (next.word_is it is ∙ ap (word_in s.code s.words it.stopped) (next.place it is few))
    ∙ found s.code s.words it.stopped (not holds) it.tasks (place_by s told)

-- what is known of the act that was made, of a body of these scripts
pub record IsMade (scripts : List (List ScriptWord)) (sees : Option Sight) (limits : Limits) (w : ScriptWord) (n : Option ℕ) (request : Option Request) (a : Act Played) : Type 0 where
  pub some : (it : Sight) → sees ≡ Some it → IfSome request (IsRequestOf it limits w)
  pub none : (it : Sight) → sees ≡ Some it → IfNone request (CanAsk w → IsInTime it.moment limits → asks_request w ≡ false)
  pub is : IfSome request (λ r. a ≡ Register r)
  pub plain : IfNone request (CanPlay (length scripts) w → asks_request w ≡ false → IsPlainActOf scripts limits w n a)

made_asks : (s : Played) (told : Said) (sees : Option Sight) (at : ℕ) (holds : Bool) (w : ScriptWord) (request : Option Request) (a : Act Played) → IsNext s told sees at holds w
    → IsMade s.scripts sees s.limits w (newest (held_by s.asked s.held told)) request a → (it : Sight) → sees ≡ Some it → it.tasks ≤ 2 ^ 32 → CanPlay (length s.scripts) w → IsInTime it.moment s.limits → AsksFor it s.limits (held_by s.asked s.held told) w a
made_asks s told sees at holds w (Some r) a next made it is few can in_time =
    subst (AsksFor it s.limits (held_by s.asked s.held told) w) (sym made.is) (registers it s.limits (held_by s.asked s.held told) w r (made.some it is))
made_asks s told sees at holds w None a next made it is few can in_time =
    let idle : is_passed (not holds) it.tasks w ≡ false = not_idle s told sees at holds w next it is few in
    let plainly : asks_request w ≡ false = made.none it is (can_ask (length s.scripts) w can) in_time in
    act_asked s.scripts it s.limits (held_by s.asked s.held told) w a can
    (record {
      drops = λ drop_there nothing.
          true≢false (sym (ap not next.holds_some ∙ ap (λ (n : Option ℕ). not (is_some n)) nothing) ∙ subst (λ v. is_passed (not holds) it.tasks v ≡ false) drop_there idle);
      wakes = λ t wake_there.
          let there : t < it.tasks = there_of (not holds) it.tasks t (subst (λ v. is_passed (not holds) it.tasks v ≡ false) wake_there idle) in
          omega (arith, few, there);
      none = plainly;
      is = λ may. made.plain may plainly;
    })

made_begets : (s : Played) (sees : Option Sight) (w : ScriptWord) (n : Option ℕ) (request : Option Request) (a : Act Played) → IsMade s.scripts sees s.limits w n request a → CanPlay (length s.scripts) w → Begets s w a
made_begets = grind arith

-- the same, of what was computed
pub made_here : (s : Played) (scripts : List (List ScriptWord)) (sees : Option Sight) (limits : Limits) (w : ScriptWord) (n m : Option ℕ) (request : Option Request) (a : Act Played) → scripts ≡ s.scripts → limits ≡ s.limits → n ≡ m → IsMade scripts sees limits w n request a → IsMade s.scripts sees s.limits w m request a
made_here = grind arith

pub makes : (s s' : Played) (told : Said) (sees : Option Sight) (at next : ℕ) (holds : Bool) (w : ScriptWord) (request : Option Request) (a : Act Played) → IsNext s told sees at holds w
    → IsMade s.scripts sees s.limits w (newest (held_by s.asked s.held told)) request a → (at < length s.words → next ≡ at + 1) → s' ≡ stepped s told a next → gives s sees told a s' sees
makes s s' told sees at next holds w request a it made past is =
    steps s s' told sees at next holds w a it (made_asks s told sees at holds w request a it made) (made_begets s sees w (newest (held_by s.asked s.held told)) request a made) past is

-- there is one, and it is so
pub wanted : (sees : Option Sight) (limits late : Limits) (w : ScriptWord) (request : Option Request) (needed : Bool) → limits ≡ late → ((it : Sight) → sees ≡ Some it → IfSome request (IsRequestOf it limits w)) → needed ≡ is_some request → IsTrue needed → Wanted sees late w
wanted sees limits late w (Some r) needed same_limits is same true_of = (r, λ it at can. subst (λ k. IsRequestOf it k w r) same_limits (is it at))
wanted sees limits late w None needed same_limits is same true_of = absurd (true≢false (sym true_of ∙ same))

pub state_is : (s : Played) (told : Said) (a : Act Played) (code : Code) (words : List ScriptWord) (scripts : List (List ScriptWord)) (limits : Limits) (place before : ℕ) (held : List ℕ) (asked : Question) → code ≡ s.code → words ≡ s.words → scripts ≡ s.scripts → limits ≡ s.limits
    → before ≡ place_by s told → held ≡ held_by s.asked s.held told → asked ≡ asked_by a
    → (let it : Played = record { code = code; words = words; scripts = scripts; limits = limits; place = place; before = before; held = held; asked = asked } in it) ≡ stepped s told a place
state_is = grind arith
