-- An inbox has a place for a wake of the root where it has none.
use Rattle.std.{proofs.{Common.{◌≡◌, Bool, false, List, [], ◌∷◌, arith, count_by, refl}, lemmas.{Grind.common_steps}}, specs.List.list_any}
use Rattle.exec_parts.specs.{Words.{is_wake_root, Mailbox, MailMessage}, MailPosts.IsMailbox, Pooled.HasPlaceFor, declared.parts.mail.Subject.Subject}

module _ {A : Type 0} (p : A → Bool) where
  -- nothing passes the test
  pub none_any : (xs : List A) → list_any p xs ≡ false → count_by p xs ≡ 0
  none_any [] h = refl
  none_any (x ∷ xs) h = grind (arith, common_steps, none_any xs)

pub root_place : (m : Mailbox Subject Subject) → IsMailbox m → HasPlaceFor MailMessage.Root m
root_place m mail = λ open_still unsent. let place = mail.place (none_any is_wake_root m.inbox.messages unsent) in omega (arith, place)
