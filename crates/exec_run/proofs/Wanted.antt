-- Requests that words ask for.
use Rattle.std.proofs.Common.{◌≡◌, ℕ, ◌+◌, ◌-◌, ◌%◌, ◌≤◌, ◌⊎◌, inl, inr, Bool, true, false, List, [], Option, Some, None, IfSome, replicate, length, length-append, refl, sym, ap, subst, ◌∙◌, arith}
use Rattle.exec_run.{proofs.Names.{if◌then◌else◌, length-replicate, length-take, le-leb, true≢false, resized, is_durable, aligned, Asked, Kind, asks_hint, is_syncing, write_kind, IsDirectRead, size_for, Single, Cache, Enabled, Disabled, ReadAtRequest, RecvRequest, Request, SendRequest, Way, WriteAtRequest, WriteAtState, Writing, WritingSync, WritingBeforeSync, Sight, open_at, Configuration, ScriptWord, Operation, of_file, of_socket, operation_asked}, specs.{Asking.{moves_bytes, range_operation, CanAsk, CoversSeen, IsFilePart, IsFresh, IsRequestOf, IsSocketPart, IsWanted}, declared.asking.Limits.Limits}}
use Rattle.exec_outcomes.specs.declared.outcome.Kind.TheVariants as kind
use Rattle.exec_request.specs.declared.request.Request.TheVariants as request
use Rattle.exec_machine.specs.declared.config.ScriptWord.TheVariants as word

-- NEW REQUESTS, of each kind

zeros : (n : ℕ) → length (resized n []) ≡ n
zeros n = simp (length-append, length-replicate, length-take) (omega arith)

asked_so : (k : Kind) (n m skip late : ℕ) → m ≡ n → late ≡ skip → (let it : Asked = record { kind = k; length = m; skip = late } in it) ≡ record { kind = k; length = n; skip = skip }
asked_so k n m skip late same same_skip = rw (same, same_skip) refl

fresh_send : (r : SendRequest) (socket n deadline : ℕ) → n ≤ 1048576 → r.fd ≡ socket → r.write ≡ Single (replicate n 0) 0 → r.deadline ≡ Some deadline → IsFresh (of_socket kind.Send socket n deadline) (request.Send r)
fresh_send = grind (arith, length-replicate, asked_so)

fresh_recv : (r : RecvRequest) (exact : Bool) (socket n deadline : ℕ) → n ≤ 1048576 → r.fd ≡ socket → r.start ≡ 0 → r.offset ≡ 0 → r.len ≡ n → r.exact ≡ exact → r.deadline ≡ Some deadline
    → IsFresh (of_socket (if exact then kind.Fill else kind.Recv) socket n deadline) (request.Recv r)
fresh_recv = grind arith

-- a read through the page cache
abbrev way_by : Cache → Way
way_by cache = if asks_hint cache then Way.Hinted else Way.Buffered

-- of bytes that are all zero at first
fresh_read : (file offset n : ℕ) (r : ReadAtRequest) (cache : Cache) → n ≤ 1048576 → r.file ≡ file → r.offset ≡ offset → r.read ≡ 0 → r.buf ≡ record { bytes = resized n []; capacity = n } → r.cache ≡ cache → r.way ≡ way_by cache
    → IsFresh (of_file (if asks_hint cache then kind.Hint else kind.Read) file offset n) (request.ReadAt r)
fresh_read = grind (arith, zeros)

aligned_within : (n : ℕ) → n ≤ 1052672 → aligned n ≤ 2147479552
aligned_within n few = omega arith

fresh_direct : (file offset n : ℕ) (r : ReadAtRequest) → n ≤ 1048576 → IsDirectRead r file offset n → IsFresh (range_operation kind.Direct file offset n) (request.ReadAt r)
fresh_direct = grind (arith, length-replicate, aligned_within)

fresh_write : (file offset n : ℕ) (r : WriteAtRequest) (state : WriteAtState) → n ≤ 1048576 → is_syncing state ≡ false → r.file ≡ file → r.offset ≡ offset → r.write ≡ Single (replicate n 0) 0 → r.state ≡ state → r.cache ≡ Enabled
    → IsFresh (of_file (write_kind state) file offset n) (request.WriteAt r)
fresh_write = grind (arith, length-replicate)

-- WHAT WORDS ASK FOR

-- one of a socket or a listener, whose deadline is so much later
by_deadline : (k : Kind) (target n moment deadline : ℕ) (limits : Limits) (w : ScriptWord) (r : Request) → deadline ≡ moment + limits.rw → ((c : Configuration) → operation_asked c moment w ≡ Some (of_socket k target n (moment + c.rw)))
    → IsFresh (of_socket k target n deadline) r → IsWanted limits moment w r
by_deadline k target n moment deadline limits w r until asks fresh =
    λ c rw_is connect_is. (of_socket k target n (moment + c.rw), asks c, subst (λ d. IsFresh (of_socket k target n d) r) (until ∙ ap (λ d. moment + d) (sym rw_is)) fresh)

-- one of a file, at any moment
by_file : (o : Operation) (limits : Limits) (moment : ℕ) (w : ScriptWord) (r : Request) → ((c : Configuration) → operation_asked c moment w ≡ Some o) → IsFresh o r → IsWanted limits moment w r
by_file o limits moment w r asks fresh = λ c rw_is connect_is. (o, asks c, fresh)

-- THERE IS SUCH A REQUEST, also where there was no memory for it

no_cover : (it : Sight) (o : Operation) (r : Request) → IsFresh o r → is_durable o.kind ≡ false → CoversSeen it r
no_cover it o r fresh undurable = λ durable. absurd (true≢false (sym durable ∙ ap (λ (x : Asked). is_durable x.kind) fresh.fits.asked ∙ undurable))

-- the request if there can be one
abbrev Is : Sight → Limits → ScriptWord → Type 0
Is it limits w = (r : Request) × IsRequestOf it limits w r

-- one of a socket, and one of a file, which need no permit
of_peer : (it : Sight) (limits : Limits) (w : ScriptWord) (k : Kind) (socket n : ℕ) (r : Request) → ((c : Configuration) → operation_asked c it.moment w ≡ Some (of_socket k socket n (it.moment + c.rw))) → is_durable k ≡ false
    → IsFresh (of_socket k socket n (it.moment + limits.rw)) r → Is it limits w
of_peer it limits w k socket n r asks undurable fresh =
    (r, record { wanted = by_deadline k socket n it.moment (it.moment + limits.rw) limits w r refl asks fresh; covers = no_cover it (of_socket k socket n (it.moment + limits.rw)) r fresh undurable })

of_range : (it : Sight) (limits : Limits) (w : ScriptWord) (o : Operation) (r : Request) → ((c : Configuration) → operation_asked c it.moment w ≡ Some o) → is_durable o.kind ≡ false → IsFresh o r → Is it limits w
of_range it limits w o r asks undurable fresh = (r, record { wanted = by_file o limits it.moment w r asks fresh; covers = no_cover it o r fresh undurable })

some_send : (it : Sight) (limits : Limits) (socket n : ℕ) → IsSocketPart socket n → Is it limits (word.Send socket n)
some_send it limits socket n can =
    let bytes : List ℕ = replicate n 0 in
    let r : SendRequest = record { fd = socket; write = Single bytes 0; deadline = Some (it.moment + limits.rw); sound = le-leb 0 (length bytes) (omega arith) } in
    of_peer it limits (word.Send socket n) kind.Send socket n (request.Send r) (λ c. refl) refl (fresh_send r socket n (it.moment + limits.rw) can.most refl refl refl)

recv_by : (exact : Bool) (socket n deadline : ℕ) → RecvRequest
recv_by exact socket n deadline =
    record { fd = socket; buf = record { bytes = []; capacity = n }; start = 0; offset = 0; len = n; exact = exact; deadline = Some deadline; begun = omega arith; within = omega arith; fits = omega arith }

fresh_recv_by : (exact : Bool) (socket n deadline : ℕ) → n ≤ 1048576 → IsFresh (of_socket (if exact then kind.Fill else kind.Recv) socket n deadline) (request.Recv (recv_by exact socket n deadline))
unfolding recv_by
fresh_recv_by exact socket n deadline few = fresh_recv (recv_by exact socket n deadline) exact socket n deadline few refl refl refl refl refl refl

sized_so : (cache : Cache) (n : ℕ) → n ≡ size_for (way_by cache) n
sized_so Enabled n = refl
sized_so Disabled n = refl

read_by : (cache : Cache) (file offset n : ℕ) → IsFilePart file offset n → ReadAtRequest
read_by cache file offset n can =
    let bytes : List ℕ = resized n [] in
    let many : length bytes ≡ n = zeros n in
    record { file = file; offset = offset; read = 0; buf = record { bytes = bytes; capacity = n }; cache = cache; way = way_by cache; within = omega arith; ends = omega (arith, many, can.early, can.most); sized = sized_so cache (length bytes) }

fresh_read_by : (cache : Cache) (file offset n : ℕ) (can : IsFilePart file offset n) → IsFresh (of_file (if asks_hint cache then kind.Hint else kind.Read) file offset n) (request.ReadAt (read_by cache file offset n can))
unfolding read_by
fresh_read_by cache file offset n can = fresh_read file offset n (read_by cache file offset n can) cache can.most refl refl refl refl refl refl

direct_by : (file offset n : ℕ) → IsFilePart file offset n → ReadAtRequest
direct_by file offset n can =
    let skip : ℕ = offset % 4096 in
    let all : ℕ = aligned (skip + n) in
    let few : all ≤ 2147479552 = aligned_within (skip + n) (omega (arith, can.most)) in
    let bytes : List ℕ = replicate all 0 in
    let many : length bytes ≡ all = length-replicate {A = ℕ} all 0 in
    record {
      file = file;
      offset = offset - skip;
      read = 0;
      buf = record { bytes = bytes; capacity = all };
      cache = Disabled;
      way = Way.Direct skip n;
      within = omega arith;
      ends = omega (arith, many, few, can.early);
      sized = many;
    }

fresh_direct_by : (file offset n : ℕ) (can : IsFilePart file offset n) → IsFresh (range_operation kind.Direct file offset n) (request.ReadAt (direct_by file offset n can))
unfolding direct_by
fresh_direct_by file offset n can = fresh_direct file offset n (direct_by file offset n can) can.most (record { of = refl; page = refl; begins = refl; way = refl; hint = refl; buffer = refl })

write_by : (state : WriteAtState) (file offset n seen : ℕ) → is_syncing state ≡ false → IsFilePart file offset n → WriteAtRequest
write_by state file offset n seen going can =
    let bytes : List ℕ = replicate n 0 in
    let many : length bytes ≡ n = length-replicate {A = ℕ} n 0 in
    record {
      file = file;
      offset = offset;
      write = Single bytes 0;
      state = state;
      cache = Enabled;
      seen = seen;
      sound = le-leb 0 (length bytes) (omega arith);
      ends = omega (arith, many, can.early, can.most);
      written = λ syncing. absurd (true≢false (sym syncing ∙ going));
    }

fresh_write_by : (state : WriteAtState) (file offset n seen : ℕ) (going : is_syncing state ≡ false) (can : IsFilePart file offset n) → IsFresh (of_file (write_kind state) file offset n) (request.WriteAt (write_by state file offset n seen going can))
unfolding write_by
fresh_write_by state file offset n seen going can = fresh_write file offset n (write_by state file offset n seen going can) state can.most going refl refl refl refl refl

covers_by : (it : Sight) (state : WriteAtState) (file offset n : ℕ) (going : is_syncing state ≡ false) (can : IsFilePart file offset n) → CoversSeen it (request.WriteAt (write_by state file offset n (open_at it file).mutations going can))
unfolding write_by
covers_by it state file offset n going can = λ durable. refl

some_write : (it : Sight) (limits : Limits) (w : ScriptWord) (state : WriteAtState) (file offset n : ℕ) → is_syncing state ≡ false → ((c : Configuration) → operation_asked c it.moment w ≡ Some (of_file (write_kind state) file offset n)) → IsFilePart file offset n → Is it limits w
some_write it limits w state file offset n going asks can =
    let seen : ℕ = (open_at it file).mutations in (
      request.WriteAt (write_by state file offset n seen going can),
      assumption (by_file (of_file (write_kind state) file offset n) limits it.moment w (request.WriteAt (write_by state file offset n seen going can)) asks (fresh_write_by state file offset n seen going can), covers_by it state file offset n going can),
    )

some_by : (it : Sight) (limits : Limits) (w : ScriptWord) → moves_bytes w ≡ true → CanAsk w → Is it limits w
some_by it limits (word.Send socket n) moves can = some_send it limits socket n can
some_by it limits (word.Recv socket n) moves can = of_peer it limits (word.Recv socket n) kind.Recv socket n _ (λ c. refl) refl (fresh_recv_by false socket n (it.moment + limits.rw) can.most)
some_by it limits (word.Fill socket n) moves can = of_peer it limits (word.Fill socket n) kind.Fill socket n _ (λ c. refl) refl (fresh_recv_by true socket n (it.moment + limits.rw) can.most)
some_by it limits (word.Read file offset n) moves can = of_range it limits (word.Read file offset n) _ _ (λ c. refl) refl (fresh_read_by Enabled file offset n can)
some_by it limits (word.Hint file offset n) moves can = of_range it limits (word.Hint file offset n) _ _ (λ c. refl) refl (fresh_read_by Disabled file offset n can)
some_by it limits (word.Direct file offset n) moves can = of_range it limits (word.Direct file offset n) _ _ (λ c. refl) refl (fresh_direct_by file offset n can)
some_by it limits (word.Write file offset n) moves can = some_write it limits (word.Write file offset n) Writing file offset n refl (λ c. refl) can
some_by it limits (word.Dsync file offset n) moves can = some_write it limits (word.Dsync file offset n) WritingSync file offset n refl (λ c. refl) can
some_by it limits (word.Many file offset n) moves can = some_write it limits (word.Many file offset n) WritingBeforeSync file offset n refl (λ c. refl) can
some_by it limits _ moves can = absurd (true≢false (sym moves))

socket_decided : (socket n : ℕ) → IsSocketPart socket n ⊎ (IsSocketPart socket n → ⊥)
socket_decided = grind arith

file_decided : (file offset n : ℕ) → IsFilePart file offset n ⊎ (IsFilePart file offset n → ⊥)
file_decided = grind arith

ask_decided : (w : ScriptWord) → moves_bytes w ≡ true → CanAsk w ⊎ (CanAsk w → ⊥)
ask_decided (word.Send socket n) moves = socket_decided socket n
ask_decided (word.Recv socket n) moves = socket_decided socket n
ask_decided (word.Fill socket n) moves = socket_decided socket n
ask_decided (word.Read file offset n) moves = file_decided file offset n
ask_decided (word.Hint file offset n) moves = file_decided file offset n
ask_decided (word.Direct file offset n) moves = file_decided file offset n
ask_decided (word.Write file offset n) moves = file_decided file offset n
ask_decided (word.Dsync file offset n) moves = file_decided file offset n
ask_decided (word.Many file offset n) moves = file_decided file offset n
ask_decided _ moves = absurd (true≢false (sym moves))

pub any_request : Request
any_request = request.Poll (record { fd = 0; deadline = None })

pub some_request : (it : Sight) (limits : Limits) (w : ScriptWord) → moves_bytes w ≡ true → (r : Request) × (CanAsk w → IsRequestOf it limits w r)
some_request it limits w moves =
    elim (ask_decided w moves) [
      | inl can ↦ (let one : Is it limits w = some_by it limits w moves can in (one.0, λ also. one.1))
      | inr off ↦ (any_request, λ can. absurd (off can))
    ]

-- what is known of a request that was made, together
pub request_by : (o : Option Request) (it : Sight) (limits : Limits) (w : ScriptWord) → IfSome o (IsWanted limits it.moment w) → IfSome o (CoversSeen it) → IfSome o (IsRequestOf it limits w)
request_by = grind arith
