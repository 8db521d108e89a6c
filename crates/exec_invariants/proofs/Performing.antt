-- A cell in its poll; what a body runs and holds after its act; and what is seen of an act that got no memory.
use Rattle.exec_invariants.{specs.{Acting.{Performs, StillPerforms}, Hearing.{CanHear, held_once_come}, Works.Same}, proofs.Words.{◌≡◌, ℕ, true, List, map, Option, Some, None, refl, sym, ap, subst, ◌∙◌, slice_get, slice_set, map-set, set-get_or, get_or_from_slice_get, arith, NoMemory, is_polled, cell_woken, Sight, Act, Said, Phase, Waiting, Plan, woken_phase, Task, numbers_held, Shared, TaskSlot, Worker, is_complete, yielded_slot, GoesOn, IsAnswer, held_after, Spot, spot_of, phase_seen, task_seen, body_in, TurnsSlot, by_number, same_Some, set_elsewhere, set_there}}

-- A CELL IN ITS POLL

module _ {B : Type 0} where
  -- what becomes of a polled cell that is woken
  pub record WakesAs (p : Phase B) (o : Option B) (i : ℕ) : Type 0 where
    pub shown : phase_seen (cell_woken p) i ≡ woken_phase (phase_seen p i)
    pub same_body : body_in (cell_woken p) o ≡ body_in p o
    pub polled : is_polled (cell_woken p) ≡ true
    pub complete : is_complete (cell_woken p) ≡ is_complete p

  pub wakes_as : (p : Phase B) (o : Option B) (i : ℕ) → is_polled p ≡ true → WakesAs p o i
  wakes_as = grind arith

-- WHAT IT RUNS AND HOLDS THEN

-- where the slot became this
pub still_performs : {B L : Type 0} (left : B → L) (runs : L → Plan → Option ℕ → Type 0) (holds : L → Option Said → List ℕ) (t : ℕ) (w w' : Worker) (s s' : Shared B) (slot slot' : TaskSlot B) → slice_get s.tasks.items t ≡ Some slot → s'.tasks.items ≡ slice_set s.tasks.items t slot' → w'.root ≡ w.root → s'.config ≡ s.config
    → ((p : Plan) → Performs left runs holds p slot → Performs left runs holds p slot') → StillPerforms left runs holds w s w' s'
still_performs left runs holds t w w' s s' slot slot' there items root config performs =
    record {
      root = root;
      config = config;
      performs = λ p is fits k o found.
          by_number k t
          (λ apart. fits k o (sym (set_elsewhere s.tasks.items t k slot' apart) ∙ ap (λ ts. slice_get ts k) (sym items) ∙ found))
          (λ same.
          let is : slot' ≡ o = same_Some slot' o (sym (set_there s.tasks.items t slot' slot there) ∙ ap (λ ts. slice_get ts t) (sym items) ∙ subst (λ n. slice_get s'.tasks.items n ≡ Some o) same found) in
          subst (Performs left runs holds p) is (performs p (fits t slot there)));
    }

module _ {B L : Type 0} (left : B → L) (runs : L → Plan → Option ℕ → Type 0) (holds : L → Option Said → List ℕ) (spot : L → Option Said → Spot) (gives : L → Option Sight → Said → Act B → L → Option Sight → Type 0) where
  -- A body that goes on performs the plan, where each thing that it can be told answers its act.
  pub performs_on : (p : Plan) (t : Task) (a : Act B) (slot' : TaskSlot B) (b' : B) → GoesOn runs holds spot gives p t a (left b') → slot'.home ≡ t.home → body_in slot'.cell.phase slot'.body ≡ Some b'
      → ((answer : Said) → CanHear slot'.told slot'.waiting answer → IsAnswer a answer × (held_after a answer t.held ≡ held_once_come slot'.waiting (numbers_held slot'.held.items))) → Performs left runs holds p slot'
  performs_on = grind arith

  pub performs_passed : (p : Plan) (slot : TaskSlot B) (b' : B) → is_polled slot.cell.phase ≡ true → slot.waiting ≡ Waiting.Nothing → GoesOn runs holds spot gives p (task_seen left spot slot) (Act.Sleep 0) (left b')
      → Performs left runs holds p (record slot { body = Some b'; told = Some Said.Pass })
  performs_passed = grind arith

  pub performs_waiting : (p : Plan) (slot : TaskSlot B) (b' : B) (r : Option ℕ) → is_polled slot.cell.phase ≡ true → GoesOn runs holds spot gives p (task_seen left spot slot) (Act.Await r) (left b')
      → Performs left runs holds p (record slot { body = Some b'; told = None; waiting = Waiting.Wake })
  performs_waiting = grind arith

  pub performs_yielded : (p : Plan) (slot : TaskSlot B) (b' : B) → is_polled slot.cell.phase ≡ true → GoesOn runs holds spot gives p (task_seen left spot slot) Act.Yield (left b')
      → Performs left runs holds p (yielded_slot (record slot { body = Some b'; told = None }))
  performs_yielded = grind arith

-- WHERE THERE IS NO MEMORY

module _ {B L : Type 0} (left : B → L) (spot : L → Option Said → Spot) where
  -- a body that is told so stands where it stood
  pub unmoved_seen : (slot : TaskSlot B) (b' : B) → is_polled slot.cell.phase ≡ true → spot (left b') (Some (Said.Refused NoMemory)) ≡ spot_of (task_seen left spot slot)
      → task_seen left spot (record slot { body = Some b'; told = Some (Said.Refused NoMemory) }) ≡ task_seen left spot slot
  unmoved_seen = grind arith

  -- nothing is seen of a slot that became another which looks the same
  pub same_slot : (t : ℕ) (w : Worker) (s s' : Shared B) (slot slot' : TaskSlot B) → slice_get s.tasks.items t ≡ Some slot → task_seen left spot slot' ≡ task_seen left spot slot
      → s' ≡ record s { tasks = s'.tasks } → s'.tasks.items ≡ slice_set s.tasks.items t slot' → Same left spot w s w s'
  same_slot t w s s' slot slot' there alike kept items =
      let seen = task_seen left spot in
      let back : slice_set s.tasks.items t slot ≡ s.tasks.items = ap (slice_set s.tasks.items t) (sym (get_or_from_slice_get s.tasks.items t slot slot there)) ∙ set-get_or s.tasks.items t slot in
      let all : map seen s'.tasks.items ≡ map seen s.tasks.items =
      ap (map seen) items ∙ map-set seen s.tasks.items t slot' ∙ ap (slice_set (map seen s.tasks.items) t) alike ∙ sym (map-set seen s.tasks.items t slot) ∙ ap (map seen) back in
      grind arith

  -- a body whose act got no memory made none
  pub unacted : (t : ℕ) (w : Worker) (s s' : Shared B) (slot : TaskSlot B) → slice_get s.tasks.items t ≡ Some slot → TurnsSlot t s s' (λ o. o) → Same left spot w s w s'
  unacted t w s s' slot there turns = same_slot t w s s' slot slot there refl turns.kept (turns.tasks slot there)
