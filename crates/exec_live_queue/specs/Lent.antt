-- What a push answers, and how its owner stands after it: lent to what flows over, or not lent.
use Rattle.std.specs.{Prelude.{◌≡◌, List, [], ⊤}, Borrow.{Fml, GName, MutBor, RattleType, follows_so}}
use Rattle.exec_words.specs.declared.queue.PushAnswer.{PushAnswer, PushAnswer as answer}
use Rattle.exec_live_queue.specs.{declared.{lent.{Overflow.Overflow, Push.{Push, Push as push}, Settled.{Settled, Settled as settled}}, owner.Owner.Owner}, contracts.owner.Owner.the_row, Kinds.{IsPushed, handed, handed_by}}
use mathlib.Core.Option as maybe

module _ {T : Type 0} where
  -- as a plain queue answers it
  abbrev pub answer_of : Settled T → PushAnswer T
  answer_of (settled.Pushed len) = answer.Pushed len
  answer_of (settled.Claimed x) = answer.Claimed x
  answer_of (settled.Spent x) = answer.Spent x

  -- what is left to hand out, and under which name the owner is lent
  abbrev pub left_of : Overflow T → List T
  left_of f = handed f.owner.now

  abbrev pub lender : Overflow T → GName
  lender f = f.owner.ghost_name

  abbrev pub lent_as : Push T → maybe.Option GName
  lent_as (push.Overflow f) = maybe.some (lender f)
  lent_as (push.Settled a) = maybe.none

  abbrev pub IsLent : Push T → Type 0
  IsLent (push.Overflow f) = ⊤
  IsLent (push.Settled a) = ⊥

  -- what a push of x to the owner b made of it where it is lent: o' has the newest half to hand out
  abbrev pub Lends : MutBor (Owner T) → Owner T → T → Push T → Type 0
  Lends b o x (push.Overflow f) = (lender f ≡ b.ghost_name) × IsPushed o x f.owner.now (answer.Overflow f.value) × (left_of f ≡ handed_by o (answer.Overflow f.value))
  Lends b o x (push.Settled a) = ⊤

  -- and where it isn't: nothing is left to hand out
  abbrev pub Settles : Owner T → T → Push T → Owner T → Type 0
  Settles o x (push.Overflow f) o' = ⊤
  Settles o x (push.Settled a) o' = IsPushed o x o' (answer_of a) × (handed o' ≡ [])

module _ (T : RattleType) where
  -- a push of x to the owner behind b leaves it so, once it is no longer lent
  abbrev pub pushed_to : MutBor (Owner T.Denot) → Owner T.Denot → T.Denot → Push T.Denot → Fml
  pushed_to b o x r = follows_so (the_row T) (the_row T) b.ghost_name (lent_as r) (λ w n. IsLent r → n ≡ w) (λ n. Settles o x r n)
