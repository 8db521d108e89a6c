-- A step of a worker leaves no permit with who sleeps: by what its move does, and what its event leaves.
use Rattle.std.{proofs.{Common.{◌≡◌, ◌≢◌, ℕ, ◌<◌, ◌≤◌, Bool, true, false, ◌&&◌, ◌||◌, List, [], ◌∷◌, ◌++◌, length, Some, refl, sym, ap, ◌∙◌, subst, inl, inr, arith, if◌then◌else◌, unwrap_or}, lemmas.{Bool.{true≢false, false≢true, and_parts, cases_Bool, cases_eq, cases_lt, or_cases, or_left, or_right}, List.{get_or_past, length-append}, Option.none-some}}, specs.Prelude.{◌⊎◌, drop, not, slice_get}}
use Rattle.exec_outcomes.specs.Accounts.{is_durable}
use Rattle.exec_machine.specs.{declared.config.Configuration.Configuration, Tests.{is_gated, is_resolved}, World.{Common, open_of, request_of}}
use Rattle.exec_moves.specs.{declared.place.{InPoll.InPoll, Place.Place}, Plays.{Playing, by_move, desk_of}, State.{Desk, Moved, Things, gate_of}}
use Rattle.exec_books.{specs.Booked.IsBooked, proofs.MinePhases.gated_open}
use Rattle.exec_rest.specs.Rested.{IsLaidOut, is_latched, place_at}
use Rattle.exec_settled.{specs.{Given.{IsGiven, gives_up, in_line, passes_at}, Permits.{IsHanded, IsPassing, IsPermitted, hands_to, is_past}}, proofs.{Hands.{Hands, JoinsGate}, PermittedEvents.Leaves}}

-- its worker is told of a permit of this open, or looks at the gate in a service that is ahead
abbrev pub IsTold : Configuration → Playing → ℕ → ℕ → Type 0
IsTold c x file w = IsPassing c x file ⊎ (IsHanded c x w ⊎ ((is_latched c x w || not (is_past file (place_at c x w))) ≡ true))

second : (gate : List ℕ) (k : ℕ) (more : List ℕ) → drop 1 gate ≡ k ∷ more → slice_get gate 1 ≡ Some k
second = grind (arith, none-some)

same_some : (h k : ℕ) → Some h ≡ Some k → h ≡ k
same_some h k is = ap (λ o. unwrap_or o 0) is

pub unresolved_if : (a b : Bool) → (a && b) ≡ false → b ≡ true → a ≡ false
unresolved_if = grind (arith, true≢false)

-- what waits for a permit is there
gated_there : (s : Common) (k : ℕ) → is_gated (request_of s k).phase ≡ true → k < length s.requests
gated_there = grind (arith, cases_lt, false≢true, get_or_past)

module _ (c : Configuration) (x : Playing) (laid : IsLaidOut c x) (given : IsGiven c x) (booked : IsBooked x.world) (before : IsPermitted c x) (i : ℕ) (m : Moved Things) where
  abbrev s : Common
  s = x.world.common

  abbrev d : Desk
  d = desk_of c x i

  abbrev pub next : Playing
  next = (by_move c x i m).next

  abbrev late : Common
  late = next.world.common

  module _ (later : IsGiven c next) (hands : Hands i s d x.things m late) (leaves : Leaves s late) (here : place_at c next i ≡ m.desk.place) (there : (k : ℕ) → k ≢ i → place_at c next k ≡ place_at c x k)
      (calm : (t r file : ℕ) → d.place ≡ Place.Poll t (InPoll.JoinGate r) → is_past file m.desk.place ≡ false) where
    -- who passes a permit on does so still, where the gate isn't left
    keeps_passing : (file h : ℕ) (rest : List ℕ) → file < length x.things.gates → gate_of x.things file ≡ h ∷ rest → length (h ∷ rest) ≤ length (gate_of m.thing file) → IsPassing c x file → IsPassing c next file
    keeps_passing file h rest within was long (j, passes) = elim (cases_eq j i) [
      | inl own ↦
          let shorter = hands.passing file within (subst (λ n. passes_at (place_at c x n) ≡ Some file) own passes) ∙ ap (drop 1) was in
          absurd (omega (arith, long, ap length shorter))
      | inr apart ↦ (j, ap passes_at (there j apart) ∙ passes)
    ]

    -- a request at a gate that ends in this step gives its permit up next
    passes_next : (file n k : ℕ) → slice_get (gate_of x.things file) n ≡ Some k → is_resolved (request_of s k).phase ≡ false → gives_up (request_of late k) ≡ true → IsPassing c next file
    passes_next file n k stands open_still gives =
        let at = given.at_gate file n k stands in
        (i, ap passes_at here ∙ hands.over k open_still (and_parts (is_resolved (request_of late k).phase) (is_durable (request_of late k).operation.kind) gives).0 at.1 ∙ ap Some at.2)

    -- the first of a gate that isn't left
    first_passes : (file h : ℕ) (rest : List ℕ) → file < length x.things.gates → gate_of x.things file ≡ h ∷ rest → length (h ∷ rest) ≤ length (gate_of m.thing file)
        → (gives_up (request_of s h) ≡ true) ⊎ (gives_up (request_of late h) ≡ true) → IsPassing c next file
    first_passes file h rest within was long either = elim (cases_Bool (gives_up (request_of s h))) [
      | inl gave ↦ keeps_passing file h rest within was long (before.passed file h stands gave)
      | inr not_yet ↦ elim either [
        | inl gave ↦ absurd (true≢false (sym gave ∙ not_yet))
        | inr gives ↦ passes_next file 0 h stands (unresolved_if (is_resolved (request_of s h).phase) (is_durable (request_of s h).operation.kind) not_yet (given.at_gate file 0 h stands).1) gives
      ]
    ]
      where
        stands : slice_get (gate_of x.things file) 0 ≡ Some h
        stands = ap (λ g. slice_get g 0) was

    looks_ahead : (file w : ℕ) → is_past file (place_at c next w) ≡ false → IsTold c next file w
    looks_ahead file w ahead = inr (inr (or_right (is_latched c next w) (not (is_past file (place_at c next w))) (ap not ahead)))

    latched : (file w : ℕ) → is_latched c next w ≡ true → IsTold c next file w
    latched file w latch = inr (inr (or_left (is_latched c next w) (not (is_past file (place_at c next w))) latch))

    -- who was told is so still
    keeps_told : (file k : ℕ) (rest : List ℕ) → file < length x.things.gates → gate_of x.things file ≡ k ∷ rest → length (k ∷ rest) ≤ length (gate_of m.thing file)
        → is_gated (request_of s k).phase ≡ true → is_gated (request_of late k).phase ≡ true → IsTold c x file (request_of s k).worker → IsTold c next file (request_of s k).worker
    keeps_told file k rest within was long gated gated_still = keeps
      where
        w : ℕ
        w = (request_of s k).worker

        stands : slice_get (gate_of x.things file) 0 ≡ Some k
        stands = ap (λ g. slice_get g 0) was

        there_now : (k < length s.requests) × (is_durable (request_of s k).operation.kind ≡ true) × ((request_of s k).operation.target ≡ file)
        there_now = given.at_gate file 0 k stands

        in_words : w < length x.things.words
        in_words = subst (λ n. w < n) (sym laid.words) (booked.requests k there_now.0)

        -- it has passed the gate by this step, then
        goes_past : w ≡ i → is_past file (place_at c x w) ≡ false → is_past file m.desk.place ≡ true → IsTold c next file w
        goes_past own ahead past =
            absurd (true≢false (sym gated_still ∙ hands.past file k (subst (λ n. is_past file (place_at c x n) ≡ false) own ahead) past stands (subst (λ n. file < n) given.gates within) own there_now.2 gated))

        keeps_ahead : is_past file (place_at c x w) ≡ false → IsTold c next file w
        keeps_ahead ahead = elim (cases_eq w i) [
          | inr apart ↦ looks_ahead file w (ap (is_past file) (there w apart) ∙ ahead)
          | inl own ↦ elim (cases_Bool (is_past file m.desk.place)) [
            | inl past ↦ goes_past own ahead past
            | inr still ↦ looks_ahead file w (subst (λ n. is_past file (place_at c next n) ≡ false) (sym own) (ap (is_past file) here ∙ still))
          ]
        ]

        not_so : (b : Bool) → not b ≡ true → b ≡ false
        not_so true h = absurd (false≢true h)
        not_so false h = refl

        keeps_latched : is_latched c x w ≡ true → IsTold c next file w
        keeps_latched latch = elim (cases_Bool (is_latched c next w)) [
          | inl still ↦ latched file w still
          | inr gone ↦
              let out = hands.latch_out w latch gone in
              looks_ahead file w (subst (λ n. is_past file (place_at c next n) ≡ false) (sym out.0) (ap (is_past file) here ∙ out.1 file))
        ]

        keeps : IsTold c x file w → IsTold c next file w
        keeps (inl passing) = inl (keeps_passing file k rest within was long passing)
        keeps (inr (inl (j, hands_on))) = elim (cases_eq j i) [
          | inl own ↦ latched file w (hands.handing w (subst (λ n. hands_to (place_at c x n) ≡ Some w) own hands_on) in_words)
          | inr apart ↦ inr (inl (j, ap hands_to (there j apart) ∙ hands_on))
        ]
        keeps (inr (inr told)) = elim (or_cases (is_latched c x w) (not (is_past file (place_at c x w))) told) [
          | inl latch ↦ keeps_latched latch
          | inr ahead ↦ keeps_ahead (not_so (is_past file (place_at c x w)) ahead)
        ]

    -- A HOLDER THAT WASN'T GRANTED ITS PERMIT

    module _ (file k : ℕ) (within : file < length x.things.gates) (gated : is_gated (request_of late k).phase ≡ true) where
      -- it was the first before
      was_first : (rest : List ℕ) → gate_of x.things file ≡ k ∷ rest → length (k ∷ rest) ≤ length (gate_of m.thing file) → gives_up (request_of s k) ≡ false → IsTold c next file (request_of late k).worker
      was_first rest was long stays =
          let at = given.at_gate file 0 k (ap (λ g. slice_get g 0) was) in
          let left = leaves.requests k at.0 in
          let gated_before = left.gated gated in
          let holds : (open_of s file).holder ≡ Some k = given.holder file ∙ ap (λ g. slice_get (in_line s g) 0) was ∙ ap (λ b. slice_get (if b then rest else k ∷ rest) 0) stays in
          let told = before.granted k gated_before (ap (λ f. (open_of s f).holder) at.2 ∙ holds) in
          subst (λ w. IsTold c next file w) (sym left.worker)
          (keeps_told file k rest within was long gated_before gated (subst (λ f. IsTold c x f (request_of s k).worker) at.2 told))

      -- the first is as before
      first_stays : (h : ℕ) (rest more : List ℕ) → gate_of x.things file ≡ h ∷ rest → gate_of m.thing file ≡ h ∷ more → length rest ≤ length more → slice_get (in_line late (h ∷ more)) 0 ≡ Some k
          → IsTold c next file (request_of late k).worker
      first_stays h rest more was is longer = by (gives_up (request_of late h)) refl (gives_up (request_of s h)) refl
        where
          long : length (h ∷ rest) ≤ length (gate_of m.thing file)
          long = omega (arith, longer, ap length is)

          by : (b : Bool) → gives_up (request_of late h) ≡ b → (a : Bool) → gives_up (request_of s h) ≡ a → slice_get (if b then more else h ∷ more) 0 ≡ Some k → IsTold c next file (request_of late k).worker
          by true gives a was_so first = inl (first_passes file h rest within was long (inr gives))
          by false gives true gave first = inl (first_passes file h rest within was long (inl gave))
          by false gives false stays first =
              let same = same_some h k first in
              was_first rest (subst (λ n. gate_of x.things file ≡ n ∷ rest) same was) (subst (λ n. length (n ∷ rest) ≤ length (gate_of m.thing file)) same long) (subst (λ n. gives_up (request_of s n) ≡ false) same stays)

      -- the gate is as before
      stays : gate_of m.thing file ≡ gate_of x.things file → slice_get (in_line late (gate_of m.thing file)) 0 ≡ Some k → IsTold c next file (request_of late k).worker
      stays same first = by (gate_of x.things file) refl
        where
          by : (gate : List ℕ) → gate_of x.things file ≡ gate → IsTold c next file (request_of late k).worker
          by [] none = absurd (none-some k (sym (ap (λ g. slice_get (in_line late g) 0) (same ∙ none)) ∙ first))
          by (h ∷ rest) some = first_stays h rest rest some (same ∙ some) (omega arith) (sym (ap (λ g. slice_get (in_line late g) 0) (same ∙ some)) ∙ first)

      -- the first has left
      left_by : gate_of m.thing file ≡ drop 1 (gate_of x.things file) → ((n : ℕ) → slice_get (drop 1 (gate_of x.things file)) 0 ≡ Some n → hands_to m.desk.place ≡ Some (request_of s n).worker)
          → slice_get (in_line late (gate_of m.thing file)) 0 ≡ Some k → IsTold c next file (request_of late k).worker
      left_by same to first = by (drop 1 (gate_of x.things file)) refl
        where
          comes : (h : ℕ) (more : List ℕ) → drop 1 (gate_of x.things file) ≡ h ∷ more → (b : Bool) → gives_up (request_of late h) ≡ b → slice_get (if b then more else h ∷ more) 0 ≡ Some k → IsTold c next file (request_of late k).worker
          comes h more is true gives first =
              let stands = second (gate_of x.things file) h more is in
              inl (passes_next file 1 h stands (gated_open (request_of s h).phase (given.behind file 0 h stands)) gives)
          comes h more is false stays first =
              let at = given.at_gate file 1 h (second (gate_of x.things file) h more is) in
              let same = same_some h k first in
              let left = leaves.requests h at.0 in
              let w = subst (λ n. (request_of late n).worker ≡ (request_of s h).worker) same left.worker in
              inr (inl (i, ap hands_to here ∙ to h (ap (λ g. slice_get g 0) is) ∙ ap Some (sym w)))

          by : (gate : List ℕ) → drop 1 (gate_of x.things file) ≡ gate → IsTold c next file (request_of late k).worker
          by [] none = absurd (none-some k (sym (ap (λ g. slice_get (in_line late g) 0) (same ∙ none)) ∙ first))
          by (h ∷ more) some = comes h more some (gives_up (request_of late h)) refl (sym (ap (λ g. slice_get (in_line late g) 0) (same ∙ some)) ∙ first)

      -- one has joined
      joined_by : JoinsGate i s d x.things m late file → slice_get (in_line late (gate_of m.thing file)) 0 ≡ Some k → IsTold c next file (request_of late k).worker
      joined_by join first = by (gate_of x.things file) refl
        where
          alone : (b : Bool) → slice_get (if b then [] else join.request ∷ []) 0 ≡ Some k → IsTold c next file (request_of late k).worker
          alone true none = absurd (none-some k none)
          alone false same_one =
              let same = same_some join.request k same_one in
              let own = given.joins i join.task join.request join.place in
              let left = leaves.requests join.request (gated_there s join.request own.1) in
              let w = subst (λ n. (request_of late n).worker ≡ i) same (left.worker ∙ own.0) in
              looks_ahead file (request_of late k).worker (subst (λ n. is_past file (place_at c next n) ≡ false) (sym w) (ap (is_past file) here ∙ calm join.task join.request file join.place))

          by : (gate : List ℕ) → gate_of x.things file ≡ gate → IsTold c next file (request_of late k).worker
          by [] none = alone (gives_up (request_of late join.request)) (sym (ap (λ g. slice_get (in_line late g) 0) (join.gate ∙ ap (λ g. g ++ join.request ∷ []) none)) ∙ first)
          by (h ∷ rest) some =
              let is = join.gate ∙ ap (λ g. g ++ join.request ∷ []) some in
              first_stays h rest (rest ++ join.request ∷ []) some is (omega (arith, length-append rest (join.request ∷ []))) (sym (ap (λ g. slice_get (in_line late g) 0) is) ∙ first)

    granted_then : (k : ℕ) → is_gated (request_of late k).phase ≡ true → (open_of late (request_of late k).operation.target).holder ≡ Some k
        → IsTold c next (request_of late k).operation.target (request_of late k).worker
    granted_then k gated holds =
        let file = (request_of late k).operation.target in
        let within : file < length x.things.gates = omega (arith, (later.gated k gated).1, leaves.opens, given.gates) in
        let first = sym (later.holder file) ∙ holds in
        elim (hands.gates file within) [
          | inl same ↦ stays file k within gated same first
          | inr changed ↦ elim changed [
            | inl left ↦ left_by file k within gated left.1 left.2 first
            | inr joined ↦ joined_by file k within gated joined first
          ]
        ]

    -- A HOLDER THAT IS OVER

    stood_first : (file k : ℕ) (gate : List ℕ) → file < length x.things.gates → gate_of x.things file ≡ gate → slice_get gate 0 ≡ Some k → length gate ≤ length (gate_of m.thing file) → gives_up (request_of late k) ≡ true → IsPassing c next file
    stood_first file k [] within was first long gives = absurd (none-some k first)
    stood_first file k (h ∷ rest) within was first long gives = first_passes file h rest within was long (inr (subst (λ n. gives_up (request_of late n) ≡ true) (sym (same_some h k first)) gives))

    came_first : (file k : ℕ) (gate : List ℕ) → drop 1 (gate_of x.things file) ≡ gate → slice_get gate 0 ≡ Some k → gives_up (request_of late k) ≡ true → IsPassing c next file
    came_first file k [] is first gives = absurd (none-some k first)
    came_first file k (h ∷ more) is first gives =
        let stands = second (gate_of x.things file) k more (is ∙ ap (λ n. n ∷ more) (same_some h k first)) in
        passes_next file 1 k stands (gated_open (request_of s k).phase (given.behind file 0 k stands)) gives

    joined_first : (file k : ℕ) → file < length x.things.gates → (join : JoinsGate i s d x.things m late file) → slice_get (gate_of m.thing file) 0 ≡ Some k → gives_up (request_of late k) ≡ true → IsPassing c next file
    joined_first file k within join first gives = by (gate_of x.things file) refl
      where
        by : (gate : List ℕ) → gate_of x.things file ≡ gate → IsPassing c next file
        by [] none =
            let same = same_some join.request k (sym (ap (λ g. slice_get g 0) (join.gate ∙ ap (λ g. g ++ join.request ∷ []) none)) ∙ first) in
            let own = given.joins i join.task join.request join.place in
            let over = and_parts (is_resolved (request_of late join.request).phase) (is_durable (request_of late join.request).operation.kind) (subst (λ n. gives_up (request_of late n) ≡ true) (sym same) gives) in
            (i, ap passes_at here ∙ hands.over join.request (gated_open (request_of s join.request).phase own.1) over.0 (given.gated join.request own.1).0 ∙ ap Some join.target)
        by (h ∷ rest) some =
            let is = join.gate ∙ ap (λ g. g ++ join.request ∷ []) some in
            stood_first file k (h ∷ rest) within some (sym (ap (λ g. slice_get g 0) is) ∙ first) (omega (arith, ap length is, length-append rest (join.request ∷ []))) gives

    -- whoever stands at a gate, that is there
    gate_there : (file k : ℕ) → slice_get (gate_of m.thing file) 0 ≡ Some k → file < length x.things.gates
    gate_there file k first = elim (cases_lt file (length m.thing.gates)) [
      | inl within ↦ let same : length m.thing.gates ≡ length late.opens = later.gates in omega (arith, within, same, leaves.opens, given.gates)
      | inr past ↦ absurd (none-some k (sym (ap (λ g. slice_get g 0) (get_or_past m.thing.gates file [] past)) ∙ first))
    ]

    passed_then : (file k : ℕ) → slice_get (gate_of next.things file) 0 ≡ Some k → gives_up (request_of late k) ≡ true → IsPassing c next file
    passed_then file k first gives =
        let within = gate_there file k first in
        elim (hands.gates file within) [
          | inl same ↦ stood_first file k (gate_of x.things file) within refl (sym (ap (λ g. slice_get g 0) same) ∙ first) (omega (arith, ap length same)) gives
          | inr changed ↦ elim changed [
            | inl left ↦ came_first file k (drop 1 (gate_of x.things file)) refl (sym (ap (λ g. slice_get g 0) left.1) ∙ first) gives
            | inr joined ↦ joined_first file k within joined first gives
          ]
        ]

    pub permitted_by_move : IsPermitted c next
    permitted_by_move = record { passed = passed_then; granted = granted_then }
