-- Small tools for steps that go down.
use Rattle.std.proofs.{Common.{◌≡◌, ℕ, ◌<◌, ◌≤◌, Bool, true, false, if◌then◌else◌, sym, ap, ◌∙◌}, lemmas.{Bool.false≢true, List.set-get_or}}
use Rattle.exec_machine.specs.{declared.config.Configuration.Configuration, Choice.Choice.Plain, World.{Common, Own as Books}, Text.is_quiet}
use Rattle.exec_moves.specs.{declared.{handing.{AfterPop.AfterPop, InPop.InPop}, place.Place.Place}, Parts.polls, State.{Desk, Moved, Things, no_queue, queue_of}, Thing.set_queue}
use Rattle.exec_progress.{specs.{Effort.is_short, Going.{Falls, seen, stands}, Heights.leave_search, Ranks.rank}, proofs.Tools.{KeepsTurns, Now, afterwards, before, comes_to_poll, gates, goes_down, keeps_turns, left, rest}}
use Rattle.exec_machine.specs.declared.event.Event.TheVariants as event

-- a queue that is put back as it was
pub same_queue : (i : ℕ) (x : Things) → set_queue i x (queue_of x i) ≡ x
same_queue i x = ap (λ qs. record x { queues = qs }) (set-get_or x.queues i no_queue)

-- a step that isn't quiet
pub loud : (c : Configuration) (i : ℕ) (me : Books) (s : Common) (d : Desk) (x : Things) (m : Moved Things) → is_quiet m.event ≡ false → Falls c i me s d x m
loud c i me s d x m is quiet = absurd (false≢true (sym is ∙ quiet))

-- the place goes down in the turn, with the signs kept
pub sinks : (c : Configuration) (i : ℕ) (a b : Now) → is_short a.d.place ≡ false → is_short b.d.place ≡ false → rest c i b < rest c i a → gates c i b ≤ gates c i a → KeepsTurns c i a b → left c i b < left c i a
sinks c i a b long later less gates_kept keeps =
    goes_down c i a b (record { long_before = long; long_after = later; less = less; gates_kept = gates_kept; owes = keeps_turns c i a b keeps })

-- a pop begins alike with others and alone
pub pop_either : (P : Place → Type 0) (b : AfterPop) (v : Bool) → P (Place.Pop InPop.LoadPopHead b) → P (Place.Pop InPop.PopAlone b) → P (if v then Place.Pop InPop.LoadPopHead b else Place.Pop InPop.PopAlone b)
pop_either P b true h k = h
pop_either P b false h k = k

-- a turn that leads from this place to that one, with these things
abbrev pub Leads : Configuration → ℕ → Books → Common → Desk → Things → Place → Place → Things → Type 0
Leads c i me s d x p q y = Falls c i (seen p me) s (stands p d) x (record { event = event.Turn; choice = Plain; desk = record d { place = q }; thing = y })

-- the task is polled next
pub polls_next : (c : Configuration) (i : ℕ) (me : Books) (s : Common) (d : Desk) (x : Things) (p : Place) (m : Moved Things) (t : ℕ)
    → m.desk ≡ polls t (stands p d) → leave_search 0 < rank c i (stands p d) x p → Falls c i (seen p me) s (stands p d) x m
polls_next c i me s d x p m t to high quiet = comes_to_poll c i (before me s d x p) (afterwards c i me s p m) t (stands p d) to high

-- the worker after such a turn; and how one is shown to fall
abbrev pub led : Configuration → ℕ → Books → Common → Desk → Place → Place → Things → Now
led c i me s d p q y = afterwards c i me s p (record { event = event.Turn; choice = Plain; desk = record d { place = q }; thing = y })

pub leads : (c : Configuration) (i : ℕ) (me : Books) (s : Common) (d : Desk) (x : Things) (p q : Place) (y : Things) → is_short p ≡ false → is_short q ≡ false
    → rest c i (led c i me s d p q y) < rest c i (before me s d x p) → gates c i (led c i me s d p q y) ≤ gates c i (before me s d x p)
    → KeepsTurns c i (before me s d x p) (led c i me s d p q y) → Leads c i me s d x p q y
leads c i me s d x p q y long later less gates_kept keeps quiet = sinks c i (before me s d x p) (led c i me s d p q y) long later less gates_kept keeps
