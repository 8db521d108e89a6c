-- Where the parts lead: whoever has not passed the gate of this open hasn't done so there either.
use Rattle.std.{proofs.Common.{◌≡◌, ℕ, Bool, true, false, refl, ◌&&◌, if◌then◌else◌, arith}, specs.Prelude.{nat_le, not}}
use Rattle.exec_words.specs.declared.head.{Fit.Fit, Head.Head}
use Rattle.exec_machine.specs.{declared.config.Configuration.Configuration, World.{Common, Own as Books}}
use Rattle.exec_moves.specs.{declared.{handing.{AfterCallbacks.AfterCallbacks, AfterKick.AfterKick, AfterLeave.AfterLeave, AfterPush.AfterPush, AfterSignal.AfterSignal}, place.Place.Place}, Callback.{after_callbacks, has_callbacks, is_of_pool, next_callback, to_queue}, Parts.{after_kick, after_leave, after_push, after_return, after_signal, has_others}, Push.{after_fit, after_store}, Send.after_spawn, State.Desk}
use Rattle.exec_settled.specs.Permits.{is_past, is_past_callbacks, is_past_kick, is_past_leave, is_past_push, is_past_signal}
use Rattle.exec_rest.proofs.Continuing.{is_light, light_next_pick, light_next_turn, light_after_send}

module _ (file : ℕ) where
  abbrev pub IsEarly : Place → Type 0
  IsEarly q = is_past file q ≡ false

  pub early_light : (q : Place) → is_light q ≡ true → IsEarly q
  early_light = grind arith

  pub early_if : (b : Bool) (q r : Place) → IsEarly q → IsEarly r → IsEarly (if b then q else r)
  early_if = grind arith

  pub early_desk_if : (b : Bool) (d e : Desk) → IsEarly d.place → IsEarly e.place → IsEarly (if b then d else e).place
  early_desk_if = grind arith

  pub early_after_leave : (c : Configuration) (i : ℕ) (me : Books) (s : Common) (b : AfterLeave) (d : Desk) → is_past_leave b ≡ false → IsEarly (after_leave c i me s b d)
  early_after_leave = grind (arith, early_light, light_next_turn)

  pub early_after_return : (c : Configuration) (i : ℕ) (me : Books) (s : Common) (last : Bool) (b : AfterLeave) (d : Desk) → is_past_leave b ≡ false → IsEarly (after_return c i me s last b d)
  early_after_return c i me s last b d h = early_if last _ _ h (early_after_leave c i me s b d h)

  pub early_to_queue : (s : Common) (i : ℕ) (b : AfterPush) → is_past_push b ≡ false → IsEarly (to_queue s i b)
  early_to_queue s i b h = early_if (is_of_pool s i) _ _ h h

  pub early_after_fit : (b : AfterPush) (h : Head) (f : Fit) → is_past_push b ≡ false → IsEarly (after_fit b h f)
  early_after_fit = grind arith

  pub early_after_spawn : (c : Configuration) (i : ℕ) (s : Common) (t : ℕ) → IsEarly (after_spawn c i s t)
  early_after_spawn c i s t = early_if (not (is_of_pool s i)) _ _ refl (early_if (has_others c) _ _ refl refl)

  -- THE CALLBACKS, and what hands on within them

  pub early_after_callbacks : (size i : ℕ) (s : Common) (n : AfterCallbacks) (d : Desk) → is_past_callbacks n ≡ false → IsEarly (after_callbacks size i s n d)
  early_after_callbacks = grind arith

  pub early_next_callback : (size i : ℕ) (me : Books) (s : Common) (n : AfterCallbacks) (d : Desk) → is_past_callbacks n ≡ false → IsEarly (next_callback size i me s n d)
  early_next_callback size i me s n d h = early_if (has_callbacks me d) _ _ h (early_after_callbacks size i s n d h)

  pub early_after_push : (c : Configuration) (i : ℕ) (me : Books) (s : Common) (b : AfterPush) (d : Desk) → is_past_push b ≡ false → IsEarly (after_push c i me s b d)
  early_after_push = grind (arith, early_light, light_next_pick, early_next_callback)

  pub early_after_store : (c : Configuration) (i : ℕ) (me : Books) (s : Common) (len : ℕ) (b : AfterPush) (d : Desk) → is_past_push b ≡ false → IsEarly (after_store c i me s len b d)
  early_after_store c i me s len b d h = early_if (nat_le 2 len && has_others c) _ _ h (early_after_push c i me s b d h)

  pub early_after_kick : (c : Configuration) (i : ℕ) (me : Books) (s : Common) (b : AfterKick) (d : Desk) → is_past_kick b ≡ false → IsEarly (after_kick c i me s b d)
  early_after_kick = grind (arith, early_after_leave, early_after_push)

  pub early_after_signal : (c : Configuration) (i : ℕ) (me : Books) (s : Common) (b : AfterSignal) (d : Desk) → is_past_signal b ≡ false → IsEarly (after_signal c i me s b d)
  early_after_signal = grind (arith, early_light, early_after_kick, early_after_push, light_after_send)
