-- What is seen of a worker by its driver.
use Rattle.exec_invariants.{specs.Flown.operations, proofs.Words.{ℕ, List, ◌++◌, length, map, RingState, completions, flying_count, Deferred, Driving, Event, MailMessage, Plain, Own, Place, polls_at, next_at, serves_at, Desk, Things, Moved, Reply, PutOff, Worker, Visible, awaited_from, completions_in, letters_in, own_of, owed_at, desk_of, numbers_of, results_in, slots_seen, number_told, trailing, wake_poll_in}}

-- what a move makes that names nothing
abbrev pub makes : Event → Desk → Things → Moved Things
makes e d x = record { event = e; choice = Plain; desk = d; thing = x }

-- what is seen with these numbers, of this driver
abbrev pub own_with : Worker → Place → List ℕ → List ℕ → Driving Reply Reply → Own
own_with w q ended untold d =
    record (own_of w) {
      serving = serves_at q;
      polls = polls_at q;
      next = next_at q;
      owed = owed_at w.workers q ++ letters_in w.letters;
      untold = untold;
      ended = ended;
      ready = numbers_of w.names.requests.items d.lists.queued;
      unenrolled = numbers_of w.names.requests.items d.lists.enrolments;
      cancels = numbers_of w.names.requests.items d.lists.cancels;
      in_flight = flying_count d.requests;
    }

abbrev pub desk_with : Worker → Place → PutOff → Deferred Reply Reply → Driving Reply Reply → Desk
desk_with w q o left d =
    record (desk_of w) {
      place = q;
      may_put_off = o.defer;
      put_off = o.«enter»;
      wakes = map (λ t. t.0) left.notes.wakes.items;
      outputs = length left.outputs.items;
      completions = completions_in left.notes.completions.items;
      results = results_in left.results.items;
      requests = slots_seen w.names.requests.items d.requests;
      awaited = awaited_from 0 w.names.requests.items d.requests.slots;
      entries = length d.ring.staged;
      polled = d.armed;
      others = trailing 0 (completions d.ring);
    }

abbrev pub visible_with : List ℕ → List MailMessage → RingState → Visible
visible_with numbers taken r = record { busy = r.busy; landed = map (number_told numbers) (operations r); wakes = wake_poll_in r; taken = taken }
