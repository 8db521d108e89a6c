-- Why the laws hold.
use Rattle.std.proofs.Common.{◌≡◌, ℕ, Bool, true, false, List, Option, Some, None, Ok, Err, is_some, refl, sym, ap, ◌∙◌, subst, arith}
use Rattle.exec_driver_laws.{proofs.Words.{outcome_if_granted, false≢true, Error, Id, Slab, Account, is_durable, OpResult, Failure, asked_of, deadline_of, goes_on_alone, output_of, asks_cancel, Request, ending_of, cancelled, Waiter, Entry, WaiterId, entry_of, Driving, request_at, is_enrolled, ListsRequests, HasDeadlines, let_go, without_observer, cancelled_at, cancelling, lawful_of, Lists, withdrawn, is_among, OpenState, holder_at, WaiterKey, one_changed, same_some, permit_there, if_tells, among_without}, specs.Laws.{ShareGates, IsDurableFlight, GoesOnFlying, is_listed}}

pub untimed : (r : Request) → goes_on_alone r ≡ true → deadline_of r ≡ None
untimed = grind arith

pub never_due : {S F : Type 0} (d : Driving S F) (id : WaiterId) (w : Waiter S F) → ListsRequests d → HasDeadlines d → is_among id d.lists.due ≡ true → request_at d id ≡ Some w → goes_on_alone w.request ≡ false
never_due d id w lists dated among at = by (goes_on_alone w.request) refl
  where
    by : (b : Bool) → goes_on_alone w.request ≡ b → goes_on_alone w.request ≡ false
    by false other = other
    by true alone = absurd (false≢true (sym (ap is_some (untimed w.request alone)) ∙ dated.deadline id w at (ap is_enrolled (sym at) ∙ lists.due id among)))

pub fails_at_grant : (r : Request) (account : Account) (error : Error) → is_durable (asked_of r).kind ≡ true → account.failure ≡ Some error → outcome_if_granted r (Some account) ≡ Some (Failure error)
fails_at_grant = grind arith

pub fails_over : (r : Request) (account : Account) (error : Error) → is_durable (asked_of r).kind ≡ true → account.failure ≡ Some error → ending_of (output_of r (Ok tt) (Some account)) ≡ Err error
fails_over = grind arith

pub unlisted : (id : WaiterId) (l : Lists) → is_listed id (withdrawn id l) ≡ false
unlisted id l = rw (among_without id l.queued, among_without id l.gated, among_without id l.enrolments, among_without id l.due, among_without id l.cancels) refl

module _ {S F : Type 0} where
  pub at_most_one : (drivers : ℕ → Driving S F) (opens : List OpenState) (a b : WaiterKey) (file : ℕ) → ShareGates drivers opens → IsDurableFlight (drivers a.worker) a.id file → IsDurableFlight (drivers b.worker) b.id file → a ≡ b
  at_most_one drivers opens a b file share one other =
      let first = share.holds a one.w file one.at (share.flies a one.w file one.at one.flies one.gate) one.gate in
      let second = share.holds b other.w file other.at (share.flies b other.w file other.at other.flies other.gate) other.gate in
      same_some (holder_at opens file) a b first second

  pub goes_on : (d : Driving S F) (id : WaiterId) (w : Waiter S F) → request_at d id ≡ Some w → goes_on_alone w.request ≡ true → let_go d id ≡ without_observer d id
  goes_on d id w at alone = rw (entry_of _ w at, alone, permit_there _) refl

  pub flying_on : (d : Driving S F) (id : WaiterId) (w : Waiter S F) → request_at d id ≡ Some w → w.in_flight ≡ true → GoesOnFlying (cancelled_at d id) id w
  flying_on d id w at flies = by (asks_cancel w.state) refl
    where
      by : (b : Bool) → asks_cancel w.state ≡ b → GoesOnFlying (cancelled_at d id) id w
      by true asked = grind arith
      by false asked =
          let is : cancelled_at d id ≡ cancelling d id w = rw (at, flies, asked) refl in
          subst (λ (e : Driving S F). GoesOnFlying e id w) (sym is) (record { after = cancelled w; at = (one_changed d.requests id.0 w (cancelled w) at).is_at; flies = flies; same = refl })

  pub completed_named : (s : Slab (Entry S F)) (given : OpResult) (o : Option Id) (id : Id) → lawful_of s given o ≡ Some id → o ≡ Some id
  completed_named s given None id is = absurd (cc)
  completed_named s given (Some other) id is = ap Some ((if_tells other id _ given is).2)
