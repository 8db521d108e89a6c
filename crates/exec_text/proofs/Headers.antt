-- The lines of a header.
use Rattle.std.proofs.{Common.{◌≡◌, ◌≢◌, ℕ, zero, suc, ◌<◌, ◌≤◌, ◌^◌, List, [], ◌∷◌, ◌++◌, codes, decimal, refl, sym, ap, ◌∙◌, arith, length, get_or, drop, append_assoc}, lemmas.{List.append-nil, Fmt.decimal_injective}}
use Rattle.exec_machine.specs.declared.config.{Configuration.Configuration, Spin.Spin}
use Rattle.exec_text.{specs.{Grammar.HeaderFits, Reading.{header, text_of_spin, SpinFits, IsCut, IsNumber}}, proofs.Numbers.{spaced, AllSmall, spaced_same, spaced_left, spaced_more, front_number}}

-- the header is nine lines
pub header_length : (c : Configuration) → length (header c) ≡ 9
unfolding header
header_length c = refl

-- the configuration of these numbers, and 0 for those that miss
abbrev pub config_of : List ℕ → Configuration
config_of ns =
    record {
      workers = get_or ns 0 0;
      interval = get_or ns 1 0;
      ring = get_or ns 2 0;
      tick = get_or ns 3 0;
      connect = get_or ns 4 0;
      rw = get_or ns 5 0;
      spin = record { budget = get_or ns 6 0; most = get_or ns 7 0; quick = get_or ns 8 0; iterations = get_or ns 9 0 };
      files = get_or ns 10 0;
      sockets = get_or ns 11 0;
    }

small_at : (ns : List ℕ) (k : ℕ) → AllSmall ns → get_or ns k 0 < 2 ^ 64
small_at [] k h = omega arith
small_at (n ∷ ns) zero h = h.0
small_at (n ∷ ns) (suc k) h = small_at ns k h.1

pub config_fits : (ns : List ℕ) → AllSmall ns → HeaderFits (config_of ns)
config_fits = grind (arith, small_at)

-- lists that begin with lists of one length
pub append_same : (xs ys r t : List (List ℕ)) → length xs ≡ length ys → xs ++ r ≡ ys ++ t → (xs ≡ ys) × (r ≡ t)
append_same [] [] r t l e = (refl, e)
append_same [] (y ∷ ys) r t l e = absurd (omega arith)
append_same (x ∷ xs) [] r t l e = absurd (omega arith)
append_same (x ∷ xs) (y ∷ ys) r t l e = grind (arith, append_same xs ys r t (omega arith) (ap (drop 1) e))

-- one line more
pub pushed : (a b xs : List (List ℕ)) (line : List ℕ) → a ≡ b ++ line ∷ [] → b ≡ xs → a ≡ xs ++ line ∷ []
pushed a b xs line e h = e ∙ ap (λ (x : List (List ℕ)). x ++ line ∷ []) h

-- the numbers of a spin
abbrev pub spin_numbers : Spin → List ℕ
spin_numbers s = s.budget ∷ s.most ∷ s.quick ∷ s.iterations ∷ []

spin_is : (s : Spin) → text_of_spin s ≡ codes "spin" ++ spaced (spin_numbers s) []
spin_is s = simp (append_assoc, append-nil)

spin_small : (s : Spin) → SpinFits s → AllSmall (spin_numbers s)
spin_small s h = (h.budget, (h.most, (h.quick, (h.iterations, tt))))

-- Two headers that read the same are of one configuration.
abbrev numbers_of : Configuration → List ℕ
numbers_of c =
    c.workers ∷ c.interval ∷ c.ring ∷ c.tick ∷ c.connect ∷ c.rw ∷ c.spin.budget ∷ c.spin.most ∷ c.spin.quick ∷ c.spin.iterations ∷ c.files ∷ c.sockets ∷ []

line_same : (c d : Configuration) (k name m n : ℕ) → m < 2 ^ 64 → n < 2 ^ 64 → header c ≡ header d → drop name (get_or (header c) k []) ≡ decimal m → drop name (get_or (header d) k []) ≡ decimal n → m ≡ n
line_same c d k name m n a b e x y = decimal_injective m n a b (sym x ∙ ap (λ (h : List (List ℕ)). drop name (get_or h k [])) e ∙ y)

pub spin_same : (s t : Spin) → SpinFits s → SpinFits t → text_of_spin s ≡ text_of_spin t → spin_numbers s ≡ spin_numbers t
spin_same s t f g e = (spaced_same (spin_numbers s) (spin_numbers t) [] [] refl (spin_small s f) (spin_small t g) tt tt (ap (drop 4) (sym (spin_is s) ∙ e ∙ spin_is t))).0

pub spin_fits : (c : Configuration) → HeaderFits c → SpinFits c.spin
spin_fits c h = record { budget = h.budget; most = h.most; quick = h.quick; iterations = h.iterations }

pub header_same : (c d : Configuration) → HeaderFits c → HeaderFits d → header c ≡ header d → c ≡ d
unfolding header
header_same c d f g e =
    let workers = line_same c d 0 8 c.workers d.workers f.workers g.workers e refl refl in
    let interval = line_same c d 1 9 c.interval d.interval f.interval g.interval e refl refl in
    let ring = line_same c d 2 5 c.ring d.ring f.ring g.ring e refl refl in
    let tick = line_same c d 3 5 c.tick d.tick f.tick g.tick e refl refl in
    let connect = line_same c d 4 8 c.connect d.connect f.connect g.connect e refl refl in
    let rw_ = line_same c d 5 3 c.rw d.rw f.rw g.rw e refl refl in
    let spin = spin_same c.spin d.spin (spin_fits c f) (spin_fits d g) (ap (λ (h : List (List ℕ)). get_or h 6 []) e) in
    let files = line_same c d 7 6 c.files d.files f.files g.files e refl refl in
    let sockets = line_same c d 8 8 c.sockets d.sockets f.sockets g.sockets e refl refl in
    let all : numbers_of c ≡ numbers_of d = cc in
    ap config_of all

-- what is left of the line where some of the numbers were read
spin_left : (line rest ns : List ℕ) (s : Spin) → line ≡ codes "spin" ++ spaced ns rest → AllSmall ns → IsCut rest → length ns ≤ 4 → SpinFits s → line ≡ text_of_spin s → rest ≡ spaced (drop (length ns) (spin_numbers s)) []
spin_left line rest ns s e a c few h t =
    spaced_left ns (spin_numbers s) rest [] few a (spin_small s h) c tt (ap (drop 4) (sym e ∙ t ∙ spin_is s))

-- the line of a spin goes on with a number up to its fourth
pub no_more_spin : (line rest ns : List ℕ) (s : Spin) → line ≡ codes "spin" ++ spaced ns rest → AllSmall ns → IsCut rest → length ns < 4 → ((n : ℕ) (r : List ℕ) → IsNumber rest n r → ⊥) → SpinFits s → line ≢ text_of_spin s
no_more_spin line rest [] s e a c few over h t =
    over s.budget _ (front_number rest s.budget (s.most ∷ s.quick ∷ s.iterations ∷ []) [] (spin_left line rest [] s e a c (omega arith) h t) h.budget tt)
no_more_spin line rest (x ∷ []) s e a c few over h t =
    over s.most _ (front_number rest s.most (s.quick ∷ s.iterations ∷ []) [] (spin_left line rest (x ∷ []) s e a c (omega arith) h t) h.most tt)
no_more_spin line rest (x ∷ y ∷ []) s e a c few over h t =
    over s.quick _ (front_number rest s.quick (s.iterations ∷ []) [] (spin_left line rest (x ∷ y ∷ []) s e a c (omega arith) h t) h.quick tt)
no_more_spin line rest (x ∷ y ∷ z ∷ []) s e a c few over h t =
    over s.iterations _ (front_number rest s.iterations [] [] (spin_left line rest (x ∷ y ∷ z ∷ []) s e a c (omega arith) h t) h.iterations tt)
no_more_spin line rest (x ∷ y ∷ z ∷ w ∷ ns) s e a c few over h t = omega arith

-- and ends there
pub spin_ended : (line rest ns : List ℕ) (s : Spin) → line ≡ codes "spin" ++ spaced ns rest → AllSmall ns → IsCut rest → length ns ≡ 4 → 0 < length rest → SpinFits s → line ≢ text_of_spin s
spin_ended line rest (x ∷ y ∷ z ∷ w ∷ []) s e a c four some h t =
    let k : rest ≡ [] = spin_left line rest (x ∷ y ∷ z ∷ w ∷ []) s e a c (omega arith) h t in omega (arith, ap length k)
spin_ended line rest [] s e a c four some h t = omega arith
spin_ended line rest (x ∷ []) s e a c four some h t = omega arith
spin_ended line rest (x ∷ y ∷ []) s e a c four some h t = omega arith
spin_ended line rest (x ∷ y ∷ z ∷ []) s e a c four some h t = omega arith
spin_ended line rest (x ∷ y ∷ z ∷ w ∷ v ∷ ns) s e a c four some h t = omega arith

-- one number more
pub spin_more : (line rest r ns : List ℕ) (n : ℕ) → line ≡ codes "spin" ++ spaced ns rest → IsNumber rest n r → line ≡ codes "spin" ++ spaced (ns ++ n ∷ []) r
spin_more line rest r ns n e h = e ∙ ap (λ (t : List ℕ). codes "spin" ++ t) (ap (spaced ns) h.spelled ∙ spaced_more ns n r)
