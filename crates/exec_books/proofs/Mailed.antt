-- What was sent of a request or a sleeper is under way until it is applied, also after an event of a worker.
use Rattle.std.{proofs.{Common.{◌≡◌, ℕ, zero, suc, ◌<◌, Bool, true, List, [], ◌∷◌, length, refl, sym, ap, ◌∙◌, subst, inl, inr, arith, get_or, set}, lemmas.Bool.{true≢false, false≢true, cases_Bool, eqb-true}}, specs.Prelude.◌⊎◌}
use Rattle.exec_machine.specs.{declared.{config.Configuration.Configuration, event.Event.{Event, Event as event}, state.{Forwarding.{Forwarding, TheVariants.{Applied, Sent, Unsent}}, MailMessage.{MailMessage, MailMessage as message}}}, After.{after, common_after}, Allowed.Allowed, Choice.Choice, Mail.{after_sending, posted}, Same.same_message, Tests.{is_applied, is_unsent}, World.{Common, Own as Books, World, no_request, no_sleeper, own_of, request_of, seat_of, sleeper_of}}
use Rattle.exec_books.{specs.Booked.{IsBooked, IsUnderWay}, proofs.{CountedFresh.{each_request, each_sleeper}, CountedSeats.{posted_there, sending_same, stays_under_way, takes_from}, CountedTurns.{tells, tells_timer}, CountedWithin.{sleeps_within, whose_within}, Own.IsOwn}}

-- what is set so is not sent
not_sent : {X : Type 0} (f : X → Forwarding) (xs : List X) (k : ℕ) (y d : X) → f y ≡ Applied → f d ≡ Unsent → f (get_or (set xs k y) k d) ≡ Sent → ⊥
not_sent f [] k y d applied past sent = true≢false (ap is_unsent (sym past ∙ sent))
not_sent f (x ∷ xs) zero y d applied past sent = true≢false (ap is_applied (sym applied ∙ sent))
not_sent f (x ∷ xs) (suc k) y d applied past sent = not_sent f xs k y d applied past sent

module _ (c : Configuration) (me : Books) (s : Common) (i : ℕ) (e : Event) (choice : Choice) (h : Allowed c me s i e choice) where
  abbrev then : Common
  then = common_after c me s i e choice

  -- sent before, and not applied by this event, or sent by it
  on_its_way : (m : MailMessage) (a y : Forwarding) (j n : ℕ) (told : Bool) → j < length s.seats → (a ≡ Sent → IsUnderWay m (seat_of s j)) → n ≡ j → (y ≡ Sent → (a ≡ Sent) ⊎ (told ≡ true))
      → (takes_from m e ≡ true → y ≡ Sent → ⊥) → (told ≡ true → IsUnderWay m (seat_of then j)) → y ≡ Sent → IsUnderWay m (seat_of then n)
  on_its_way m a y j n told within way is sent taken posts now =
      rw is (elim (cases_Bool (takes_from m e)) [
        | inl takes ↦ absurd (taken takes now)
        | inr stays ↦ elim (sent now) [ inl was ↦ stays_under_way c me s i m e choice h stays j within (way was) | inr tells ↦ posts tells ]
      ])

module _ (c : Configuration) (me : Books) (s : Common) (i : ℕ) where
  posts_there : (j to : ℕ) (m n : MailMessage) → same_message m n ≡ true → j ≡ to → j < length s.seats → IsUnderWay m (seat_of (record (after_sending s me.polls n) { seats = set (after_sending s me.polls n).seats to (posted n (seat_of (after_sending s me.polls n) to)) }) j)
  posts_there j to m n same home within = rw home (posted_there (after_sending s me.polls n) to m n same (let long = ap length (sending_same s me.polls n) in omega (arith, within, long, home)))

  applied : (k : ℕ) (e : Event) (choice : Choice) → takes_from (message.ForwardRequest k) e ≡ true → (request_of (common_after c me s i e choice) k).forwarding ≡ Sent → ⊥
  applied k (event.Apply (message.ForwardRequest r)) choice takes now =
      not_sent (λ x. x.forwarding) s.requests r (record (request_of s r) { forwarding = Applied }) no_request refl refl (subst (λ n. (request_of (common_after c me s i (event.Apply (message.ForwardRequest r)) choice) n).forwarding ≡ Sent) (eqb-true k r takes) now)
  applied k _ choice takes now = absurd (false≢true takes)

  applied_too : (z : ℕ) (e : Event) (choice : Choice) → takes_from (message.ForwardTimer z) e ≡ true → (sleeper_of (common_after c me s i e choice) z).forwarding ≡ Sent → ⊥
  applied_too z (event.Apply (message.ForwardTimer q)) choice takes now =
      not_sent (λ x. x.forwarding) s.sleepers q (record (sleeper_of s q) { forwarding = Applied }) no_sleeper refl refl (subst (λ n. (sleeper_of (common_after c me s i (event.Apply (message.ForwardTimer q)) choice) n).forwarding ≡ Sent) (eqb-true z q takes) now)
  applied_too z _ choice takes now = absurd (false≢true takes)

  told : (k : ℕ) (e : Event) (choice : Choice) → Allowed c me s i e choice → (request_of s k).worker < length s.seats → tells k e ≡ true → IsUnderWay (message.ForwardRequest k) (seat_of (common_after c me s i e choice) (request_of s k).worker)
  told = grind (arith, tells, posts_there, eqb-true, false≢true)

  told_too : (z : ℕ) (e : Event) (choice : Choice) → Allowed c me s i e choice → (sleeper_of s z).worker < length s.seats → tells_timer z e ≡ true → IsUnderWay (message.ForwardTimer z) (seat_of (common_after c me s i e choice) (sleeper_of s z).worker)
  told_too = grind (arith, tells, posts_there, eqb-true, false≢true)

module _ (c : Configuration) (w : World) (i : ℕ) (e : Event) (choice : Choice) (owns : length w.workers ≡ length w.common.seats) (here : i < length w.common.seats)
    (may : Allowed c (own_of w i) w.common i e choice) (own : IsOwn w.common i e) (held : IsBooked w) where
  abbrev late : World
  late = after c w i e choice

  pub sent_then : (k : ℕ) → (request_of late.common k).forwarding ≡ Sent → IsUnderWay (message.ForwardRequest k) (seat_of late.common (request_of late.common k).worker)
  sent_then k sent = elim (each_request c (own_of w i) w.common i e choice may k) [
    | inl it ↦ on_its_way c (own_of w i) w.common i e choice may (message.ForwardRequest k) _ _ _ _ _ (whose k) (held.sent k) it.worker it.sent (applied c (own_of w i) w.common i k e choice) (told c (own_of w i) w.common i k e choice may (whose k)) sent
    | inr new ↦ absurd (true≢false (ap is_unsent (sym new.forwarding ∙ sent)))
  ]
    where
      whose : (k : ℕ) → (request_of w.common k).worker < length w.common.seats
      whose = whose_within w.common i here held.requests

  pub sent_too_then : (z : ℕ) → (sleeper_of late.common z).forwarding ≡ Sent → IsUnderWay (message.ForwardTimer z) (seat_of late.common (sleeper_of late.common z).worker)
  sent_too_then z sent = elim (each_sleeper c (own_of w i) w.common i e choice may z) [
    | inl it ↦ on_its_way c (own_of w i) w.common i e choice may (message.ForwardTimer z) _ _ _ _ _ (whose z) (held.sent_too z) it.worker it.sent (applied_too c (own_of w i) w.common i z e choice) (told_too c (own_of w i) w.common i z e choice may (whose z)) sent
    | inr new ↦ absurd (true≢false (ap is_unsent (sym new.forwarding ∙ sent)))
  ]
    where
      whose : (z : ℕ) → (sleeper_of w.common z).worker < length w.common.seats
      whose = sleeps_within w.common i here held.sleepers
