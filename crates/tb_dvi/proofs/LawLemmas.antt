-- What the lister's machine makes of the bytes of a file.
use Rattle.std.proofs.Common.{◌≡◌, refl, ◌∙◌, ap, sym, ℕ, suc, ◌+◌, ◌-◌, ◌/◌, ◌%◌, ◌^◌, ◌<◌, ◌≤◌, ℤ, pos, negsuc, FitsSigned, true, false, cond, nat_lt, List, [], ◌∷◌, ◌++◌, length, take, append_assoc, length-append, Result, Ok, Err, take_at, arith, zero-add, le-ltb, lt-ltb, ◌+ℤ◌, ◌-ℤ◌}
use Rattle.std.specs.Int.{w32}
use Rattle.std.proofs.lemmas.Int.{ints}
use Rattle.tb_dvi.specs.declared.command.Registers.{Registers}
use Rattle.tb_dvi.specs.declared.command.Mode.TheVariants as modes
use Rattle.tb_dvi.specs.declared.command.Op.{Op}
use Rattle.tb_dvi.specs.File.{signed_4, low_4, four}
use Rattle.tb_dvi.specs.Machine.{Item, special, ruled, Fault, State, goes, unsigned_number, signed_number, op_of, is_font, is_due, op_size, whole_step, op_step, before, followed, run}

-- the bytes of a command after its first are passed
pub run-skip : (front rest : List ℕ) (place : ℕ) (s : State) → run (length front) place s (front ++ rest) ≡ run 0 (length front + place) s rest
run-skip [] rest place s = ap (λ p. run 0 p s rest) (sym (zero-add place))
run-skip (b ∷ bs) rest place s = run-skip bs rest (suc place) s ∙ ap (λ p. run 0 p s rest) (omega arith)

-- bytes that are there are enough
pub enough : (front rest : List ℕ) (k : ℕ) → k ≤ length front → nat_lt (length (front ++ rest)) k ≡ false
enough front rest k e = le-ltb (length (front ++ rest)) k (omega (arith, length-append front rest, e))

-- a command that may come here and is whole does what it does
pub whole : (place : ℕ) (op : Op) (args : List ℕ) (s : State) → is_font op ≡ false → is_due op s.mode ≡ true → nat_lt (length args) (op_size op args) ≡ false
    → op_step place op args s ≡ whole_step s.mode place op args s
whole place op args s font due size = rw (font, due, size) refl

-- one command, and then the rest
pub run-one : (b : ℕ) (front rest : List ℕ) (place : ℕ) (s s' : State) (items : List Item)
    → op_step place (op_of b) (front ++ rest) s ≡ goes (length front) items s'
    → run 0 place s (b ∷ front ++ rest) ≡ before items (run 0 (length front + suc place) s' rest)
run-one b front rest place s s' items e =
    ap (λ t. followed place s.pages t (λ skip s. run skip (suc place) s (front ++ rest))) e
    ∙ ap (before items) (run-skip front rest (suc place) s')

-- items before items
pub before-before : (a b : List Item) (r : Result (List Item) Fault) → before a (before b r) ≡ before (a ++ b) r
before-before a b (Ok more) = ap Ok (sym (append_assoc a b more))
before-before a b (Err e) = refl

pub before-none : (r : Result (List Item) Fault) → before [] r ≡ r
before-none (Ok more) = refl
before-none (Err e) = refl

-- ---- numbers of four bytes

pub unsigned-4 : (n : ℕ) (rest : List ℕ) → n < 2 ^ 32 → unsigned_number (take 4 (four n ++ rest)) ≡ n
unsigned-4 n rest fits = omega arith

pub signed-4 : (z : ℤ) (rest : List ℕ) → FitsSigned w32 z → signed_number (take 4 (signed_4 z ++ rest)) ≡ z
signed-4 (pos m) rest fits =
    let h : m < 2147483648 = fits.sfits in
    let low : nat_lt (m / 16777216 % 256) 128 ≡ true = lt-ltb (m / 16777216 % 256) 128 (omega (arith, h)) in
    ap (λ t. cond t (pos (unsigned_number (take 4 (four m ++ rest)))) (pos (unsigned_number (take 4 (four m ++ rest))) -ℤ pos 4294967296)) low
    ∙ ap pos (unsigned-4 m rest (omega (arith, h)))
signed-4 (negsuc k) rest fits =
    let h : k < 2147483648 = fits.sfits in
    let n : ℕ = 4294967296 - suc k in
    let high : nat_lt (n / 16777216 % 256) 128 ≡ false = le-ltb (n / 16777216 % 256) 128 (omega (arith, h)) in
    ap (λ t. cond t (pos (unsigned_number (take 4 (four n ++ rest)))) (pos (unsigned_number (take 4 (four n ++ rest))) -ℤ pos 4294967296)) high
    ∙ ap (λ u. pos u -ℤ pos 4294967296) (unsigned-4 n rest (omega (arith, h)))
    ∙ omega (arith, ints, h)

-- ---- one command of a file

-- a command whose bytes after its first are these
pub command : (b : ℕ) (front rest : List ℕ) (place : ℕ) (s s' : State) (items : List Item)
    → is_font (op_of b) ≡ false → is_due (op_of b) s.mode ≡ true → op_size (op_of b) (front ++ rest) ≡ length front
    → whole_step s.mode place (op_of b) (front ++ rest) s ≡ goes (length front) items s'
    → run 0 place s (b ∷ front ++ rest) ≡ before items (run 0 (length front + suc place) s' rest)
command b front rest place s s' items font due size does =
    run-one b front rest place s s' items
    (whole place (op_of b) (front ++ rest) s font due (enough front rest (op_size (op_of b) (front ++ rest)) (omega (arith, size))) ∙ does)

-- the registers of a place
abbrev pub at_place : ℤ → ℤ → Registers
at_place h v = record { h = h; v = v; w = pos 0; x = pos 0; y = pos 0; z = pos 0 }

-- on a page at a place, with this stack
abbrev pub paging : ℤ → ℤ → List Registers → ℕ → State
paging h v stack pages = record { mode = modes.OnPage (at_place h v); stack = stack; pages = pages }

-- on a page, before or after a placement
abbrev pub fresh : ℕ → State
fresh pages = paging (pos 0) (pos 0) [] pages

-- within a placement
abbrev pub inside : ℤ → ℤ → ℕ → State
inside h v pages = paging h v (at_place (pos 0) (pos 0) ∷ []) pages

pub pushes : (rest : List ℕ) (place pages : ℕ) → run 0 place (fresh pages) (141 ∷ rest) ≡ before [] (run 0 (suc place) (inside (pos 0) (pos 0) pages) rest)
pushes rest place pages = command 141 [] rest place (fresh pages) (inside (pos 0) (pos 0) pages) [] refl refl refl refl ∙ ap (λ p. before [] (run 0 p (inside (pos 0) (pos 0) pages) rest)) (zero-add (suc place))

zero-plus : (z : ℤ) → pos 0 +ℤ z ≡ z
zero-plus z = omega (arith, ints)

pub down : (v : ℤ) (rest : List ℕ) (place pages : ℕ) → FitsSigned w32 v
    → run 0 place (inside (pos 0) (pos 0) pages) (160 ∷ signed_4 v ++ rest) ≡ before [] (run 0 (4 + suc place) (inside (pos 0) v pages) rest)
down v rest place pages fits =
    command 160 (signed_4 v) rest place (inside (pos 0) (pos 0) pages) (inside (pos 0) v pages) [] refl refl refl
    (ap (λ z. goes 4 [] (inside (pos 0) z pages)) (zero-plus (signed_number (take 4 (signed_4 v ++ rest))) ∙ signed-4 v rest fits))

pub right : (h v : ℤ) (rest : List ℕ) (place pages : ℕ) → FitsSigned w32 h
    → run 0 place (inside (pos 0) v pages) (146 ∷ signed_4 h ++ rest) ≡ before [] (run 0 (4 + suc place) (inside h v pages) rest)
right h v rest place pages fits =
    command 146 (signed_4 h) rest place (inside (pos 0) v pages) (inside h v pages) [] refl refl refl
    (ap (λ z. goes 4 [] (inside z v pages)) (zero-plus (signed_number (take 4 (signed_4 h ++ rest))) ∙ signed-4 h rest fits))

-- a special whose text has this length
says_so : (h v : ℤ) (label rest : List ℕ) (place pages : ℕ)
    → run 0 place (inside h v pages) (239 ∷ (length label ∷ label) ++ rest) ≡ before (special h v label ∷ []) (run 0 (suc (length label) + suc place) (inside h v pages) rest)
says_so h v label rest place pages =
    let size : unsigned_number (length label ∷ []) ≡ length label = omega arith in
    let more : 1 + unsigned_number (length label ∷ []) ≡ suc (length label) = omega (arith, size) in
    command 239 (length label ∷ label) rest place (inside h v pages) (inside h v pages) (special h v label ∷ []) refl refl more
    (ap (λ n. goes n (special h v (take (unsigned_number (length label ∷ [])) (label ++ rest)) ∷ []) (inside h v pages)) more
    ∙ ap (λ n. goes (suc (length label)) (special h v (take n (label ++ rest)) ∷ []) (inside h v pages)) size
    ∙ ap (λ t. goes (suc (length label)) (special h v t ∷ []) (inside h v pages)) (take_at label rest (length label) refl))

pub says : (h v : ℤ) (label rest : List ℕ) (place pages : ℕ) → length label < 256
    → run 0 place (inside h v pages) (239 ∷ (length label % 256 ∷ label) ++ rest) ≡ before (special h v label ∷ []) (run 0 (suc (length label) + suc place) (inside h v pages) rest)
says h v label rest place pages short =
    let byte : length label % 256 ≡ length label = omega arith in
    ap (λ n. run 0 place (inside h v pages) (239 ∷ (n ∷ label) ++ rest)) byte ∙ says_so h v label rest place pages

-- the low four bytes of a number of 32 bits are those of the number
pub low-signed : (z : ℤ) → FitsSigned w32 z → low_4 z ≡ signed_4 z
low-signed (pos m) fits = refl
low-signed (negsuc k) fits =
    let h : k < 2147483648 = fits.sfits in
    let a : (340282366920938463463374607431768211456 - suc k) / 16777216 % 256 ≡ (4294967296 - suc k) / 16777216 % 256 = omega (arith, h) in
    let b : (340282366920938463463374607431768211456 - suc k) / 65536 % 256 ≡ (4294967296 - suc k) / 65536 % 256 = omega (arith, h) in
    let c : (340282366920938463463374607431768211456 - suc k) / 256 % 256 ≡ (4294967296 - suc k) / 256 % 256 = omega (arith, h) in
    let d : (340282366920938463463374607431768211456 - suc k) % 256 ≡ (4294967296 - suc k) % 256 = omega (arith, h) in
    (λ i. a i ∷ b i ∷ c i ∷ d i ∷ [])

draws_so : (h v height : ℤ) (rest : List ℕ) (place pages : ℕ) → FitsSigned w32 height
    → run 0 place (inside h v pages) (137 ∷ (signed_4 height ++ four 65536) ++ rest) ≡ before (ruled h v height (pos 65536) ∷ []) (run 0 (8 + suc place) (inside h v pages) rest)
draws_so h v height rest place pages fits =
    command 137 (signed_4 height ++ four 65536) rest place (inside h v pages) (inside h v pages) (ruled h v height (pos 65536) ∷ []) refl refl refl
    (ap (λ z. goes 8 (ruled h v z (pos 65536) ∷ []) (inside h v pages)) (signed-4 height (four 65536 ++ rest) fits))

-- a rule whose height has 32 bits
pub draws : (h v height : ℤ) (rest : List ℕ) (place pages : ℕ) → FitsSigned w32 height
    → run 0 place (inside h v pages) (137 ∷ (low_4 height ++ four 65536) ++ rest) ≡ before (ruled h v height (pos 65536) ∷ []) (run 0 (8 + suc place) (inside h v pages) rest)
draws h v height rest place pages fits =
    ap (λ bytes. run 0 place (inside h v pages) (137 ∷ (bytes ++ four 65536) ++ rest)) (low-signed height fits) ∙ draws_so h v height rest place pages fits

pub comes_back : (h v : ℤ) (rest : List ℕ) (place pages : ℕ) → run 0 place (inside h v pages) (142 ∷ rest) ≡ before [] (run 0 (suc place) (fresh pages) rest)
comes_back h v rest place pages = command 142 [] rest place (inside h v pages) (fresh pages) [] refl refl refl refl ∙ ap (λ p. before [] (run 0 p (fresh pages) rest)) (zero-add (suc place))
