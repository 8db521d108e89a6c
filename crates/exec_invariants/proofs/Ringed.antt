-- A worker whose ring has changed, with the same requests in it: what holds again.
use Rattle.exec_invariants.{specs.{Carried.{IsCarried, those_of}, Due.IsDue, Gates.IsKnown, HoldPlaces.spare_at, Flown.{AreLanded, HasFlown, IsPolled, operations}, Rooted.IsRooted, Names.{HasWidth, tellers, IsNamed, IsSubmitted}, Sound.{LetsGoAt, SoundAt, AreOver, served_in}}, proofs.{Words.{◌≡◌, ◌+◌, ◌≤◌, List, length, refl, sym, ap, subst, ◌∙◌, vec_capacity, RingState, Submission, pending_count, Driving, ring_size, Place, Reply, Shared, Worker, AreTagged, cancels_in, IsTold, driver_of}, Conveying.carried_ring, Flown.landed_as}}

-- another ring of the same size with the same requests in it; and its driver knows whether the wake poll is under way
pub record SameIn (d : Driving Reply Reply) (r : RingState) : Type 0 where
  pub size : r.size ≡ d.ring.size
  pub staged : r.staged ≡ d.ring.staged
  pub flying : r.flying ≡ d.ring.flying
  pub landed : operations r ≡ operations d.ring
  pub polled : IsPolled r d.armed

pub sound_ring : {B : Type 0} (q : Place) (w w' : Worker) (s : Shared B) (r : RingState) → SoundAt q w s → SameIn (driver_of w) r → driver_of w' ≡ record (driver_of w) { ring = r }
    → w' ≡ record w { home = record w.home { driver = w'.home.driver } } → SoundAt q w' s
sound_ring q w w' s r sound like driver same =
    let d = driver_of w in
    let d' : Driving Reply Reply = record d { ring = r } in
    let rs = s.requests.items in
    let ss = s.sleepers.items in
    let named = sound.named in
    let sub = named.submitted in
    let submitted : IsSubmitted w.index w.names.staged.items w.names.untold.items r rs =
    record { tagged = subst AreTagged (sym like.staged) sub.tagged; cancels = ap cancels_in like.staged ∙ sub.cancels; known = sub.known; own = sub.own; all = sub.all } in
    let named' : IsNamed w.index w.names d' w.home.timers rs ss =
    record { requests = named.requests; timers = named.timers; alike = named.alike; over = named.over; submitted = submitted; slots = named.slots; beds = named.beds } in
    let due = sound.due in
    let due' : IsDue (served_in q) w.home.closing w.index w.moments s.config w.names d' w.home.timers rs ss =
    record { punctual = record { ahead = due.punctual.ahead }; told = due.told; wheel = due.wheel; timed = due.timed; asleep = due.asleep; order = due.order } in
    let flown = sound.flown in
    let staging = subst (λ n. n ≤ vec_capacity w.names.staged) (sym like.size) flown.staging in
    let telling = subst (λ n. n ≤ vec_capacity w.names.untold) (sym like.size) flown.telling in
    let entries = subst (λ (es : List Submission). length w.names.staged.items + length w.names.untold.items ≤ length es) (sym like.staged) flown.entries in
    let landed = subst (λ cs. AreLanded w.names d' rs cs) (sym like.landed) (landed_as w.names d d' rs (operations d.ring) refl flown.landed) in
    let flown' : HasFlown (served_in q) w.index w.names d' rs = assumption (staging, telling, entries, landed, flown, like) in
    let r0 = sound.rooted in
    let rooted' : IsRooted w.index w.names d' w.home.timers w.home.deferred rs ss =
    record { kept = r0.kept; ready = λ k x there mine over seen unapplied. let it = r0.ready k x there mine over seen unapplied in record { named = it.named; live = it.live }; replies = r0.replies; watches = r0.watches; pays = r0.pays; sleeper_pays = r0.sleeper_pays; results = r0.results; completions = r0.completions; sent = r0.sent; sleeper_sent = r0.sleeper_sent } in
    let w1 : Worker = record w { home = record w.home { driver = w'.home.driver } } in
    let again : SoundAt q w1 s =
    let told = subst (λ (x : Driving Reply Reply). IsTold w.names.ended.items w.home.deferred (tellers x.requests w.home.timers + spare_at q)) (sym driver) sound.told in
    let wide = subst (λ (x : Driving Reply Reply). HasWidth w.home.deferred (tellers x.requests w.home.timers + 64)) (sym driver) sound.wide in
    let known = subst (λ (x : Driving Reply Reply). IsKnown w.index w.names.requests.items x.requests s.opens rs) (sym driver) sound.known in
    let lets = subst (λ (x : Driving Reply Reply). LetsGoAt q x.requests w.home.timers) (sym driver) sound.lets_go in
    let named = subst (λ x. IsNamed w.index w.names x w.home.timers rs ss) (sym driver) named' in
    let sized = subst (λ (x : Driving Reply Reply). x.ring.size ≡ ring_size s.config) (sym driver) (like.size ∙ sound.sized) in
    let over = subst (λ (x : Driving Reply Reply). AreOver w.index w.names.ended.items w.names.unreleased (pending_count x.requests) rs) (sym driver) sound.over in
    let due = subst (λ x. IsDue (served_in q) w.home.closing w.index w.moments s.config w.names x w.home.timers rs ss) (sym driver) due' in
    let flown = subst (λ x. HasFlown (served_in q) w.index w.names x rs) (sym driver) flown' in
    let carried = subst (λ (x : Driving Reply Reply). IsCarried w.names.requests.items x.requests x.ring rs s.store) (sym driver) (carried_ring w.names.requests.items d.requests d.ring rs s.store sound.carried d'.ring (λ v small. ap (those_of v) like.flying) (λ v small. ap (those_of v) like.staged)) in
    let rooted = subst (λ x. IsRooted w.index w.names x w.home.timers w.home.deferred rs ss) (sym driver) rooted' in
    assumption (told, wide, named, sized, over, due, flown, carried, known, lets, rooted, sound) in
    subst (λ x. SoundAt q x s) (sym same) again
