-- Only the callbacks lead to the places at which a worker waits on its ring as one that closes, and to its end: where the other parts lead.
use Rattle.std.{proofs.Common.{◌≡◌, ℕ, Bool, true, false, refl, if◌then◌else◌, arith}, specs.Prelude.not}
use Rattle.exec_words.specs.declared.head.{Fit.Fit, Head.Head}
use Rattle.exec_machine.specs.{declared.config.Configuration.Configuration, World.{Common, Own as Books}}
use Rattle.exec_moves.specs.{declared.{handing.{AfterLeave.AfterLeave, AfterPush.AfterPush}, place.{AfterService.AfterService, Place.Place, InClosing.InClosing}, idling.Stay.Stay}, Callback.{is_of_pool, to_queue}, Parts.{after_leave, after_return, has_others}, Push.after_fit, Send.after_spawn, Serve.after_service, State.Desk}
use Rattle.exec_rest.proofs.Continuing.{is_light}

-- it waits on its ring as a worker that closes, or is at its end
abbrev pub is_shut : Place → Bool
is_shut (Place.RingWait p Stay.Closing) = true
is_shut (Place.Closing InClosing.End) = true
is_shut _ = false

pub off_light : (q : Place) → is_light q ≡ true → is_shut q ≡ false
off_light = grind arith

pub off_if : (b : Bool) (q r : Place) → is_shut q ≡ false → is_shut r ≡ false → is_shut (if b then q else r) ≡ false
off_if = grind arith

-- the same of a desk
pub off_desk_if : (b : Bool) (d e : Desk) → is_shut d.place ≡ false → is_shut e.place ≡ false → is_shut (if b then d else e).place ≡ false
off_desk_if = grind arith

pub off_after_leave : (c : Configuration) (i : ℕ) (me : Books) (s : Common) (b : AfterLeave) (d : Desk) → is_shut (after_leave c i me s b d) ≡ false
off_after_leave = grind arith

pub off_after_return : (c : Configuration) (i : ℕ) (me : Books) (s : Common) (last : Bool) (b : AfterLeave) (d : Desk) → is_shut (after_return c i me s last b d) ≡ false
off_after_return c i me s last b d = off_if last _ _ refl (off_after_leave c i me s b d)

pub off_to_queue : (s : Common) (i : ℕ) (b : AfterPush) → is_shut (to_queue s i b) ≡ false
off_to_queue s i b = off_if (is_of_pool s i) _ _ refl refl

pub off_after_fit : (b : AfterPush) (h : Head) (f : Fit) → is_shut (after_fit b h f) ≡ false
off_after_fit = grind arith

pub off_after_spawn : (c : Configuration) (i : ℕ) (s : Common) (t : ℕ) → is_shut (after_spawn c i s t) ≡ false
off_after_spawn c i s t = off_if (not (is_of_pool s i)) _ _ refl (off_if (has_others c) _ _ refl refl)

pub off_after_service : (b : AfterService) (d : Desk) → is_shut (after_service b d) ≡ false
off_after_service = grind arith
