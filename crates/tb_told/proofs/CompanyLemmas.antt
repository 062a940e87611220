-- What is told of a company, in pieces: appended one after another, and read off its choices.
use Rattle.std.proofs.Common.{◌≡◌, ℕ, suc, ◌+◌, Bool, true, false, List, [], ◌∷◌, ◌++◌, length, take, drop, map, Some, slice_get, refl, sym, ap, ◌∙◌, append_assoc, append-nil, Result, Ok, Err, OnOk, IfOk}
use Rattle.std.specs.Prelude.{Option, None, is_some, if◌then◌else◌}
use Rattle.std.specs.Bool.{beq}
use Rattle.tb_node.specs.declared.Float.{Float}
use Rattle.tb_float.proofs.ListLemmas.{slice_get-drop, take-at}
use Rattle.tb_fpage.specs.declared.Wanted.{Wanted}
use Rattle.tb_fpage.specs.Company.{Choice, joins, passed_over, choices_from, company_of_head, is_made, chosen_floats}
use Rattle.tb_told.specs.declared.ToldColumn.{ToldColumn}
use Rattle.tb_told.specs.declared.ToldColumn.TheVariants.{Heads, Joins, Companied, Takes}
use Rattle.tb_told.specs.declared.Alone.{Alone}
use Rattle.tb_told.specs.declared.Made.{Made}
use Rattle.tb_told.specs.declared.Piece.{Piece}
use Rattle.tb_told.specs.declared.Piece.TheVariants.{Says}
use Rattle.tb_told.specs.declared.Tale.TheVariants.{Begins, InColumn}
use Rattle.tb_told.specs.ColumnTold.{joins_told, if_of_width, alone_told, alone_tests, made_told, told_joins, told_made, told_head, told_float, told_from, told_column}
use Rattle.tb_told.specs.ColumnPieces.{in_column, unless_made, told_at, told_choices, taken_told}
use Rattle.tb_told.specs.declared.Spot.{Spot}
use Rattle.tb_told.specs.Tales.{tales, has_width, column_tales}
use Rattle.tb_told.specs.Tested.{all_hold, is_yes}
use Rattle.tb_told.specs.declared.Test.{Test}
use Rattle.tb_told.specs.declared.Test.TheVariants as tests
use Rattle.tb_told.proofs.TestedLemmas.{yes_is_all}
use Rattle.tb_told.proofs.ChoiceLemmas.{head-length}

-- ---- pieces one after another

pub column-append : (ts us : List ToldColumn) → in_column (ts ++ us) ≡ in_column ts ++ in_column us
column-append [] us = refl
column-append (t ∷ ts) us = ap (λ ps. Says (InColumn t) ∷ ps) (column-append ts us)

-- what is told after these pieces
pub then-told : (old mid : List Piece) (ts us : List ToldColumn) → mid ≡ old ++ in_column ts → mid ++ in_column us ≡ old ++ in_column (ts ++ us)
then-told old mid ts us first = ap (λ ps. ps ++ in_column us) first ∙ append_assoc old (in_column ts) (in_column us) ∙ ap (λ ps. old ++ ps) (sym (column-append ts us))

-- nothing is told
pub none-told : (old : List Piece) (ts : List ToldColumn) → [] ≡ ts → old ≡ old ++ in_column ts
none-told old ts e = sym (append-nil old) ∙ ap (λ us. old ++ in_column us) e

-- ---- the later floats of a company

-- a float of the width, or of the other
pub of-width : (z : Wanted) (before : List Choice) (c : Choice) → beq c.float.wide z.wide ≡ true → Joins c.float (joins_told z before c.float) ∷ [] ≡ told_choices z before (c ∷ [])
of-width z before c e = sym (ap (λ b. (if b then Joins c.float (joins_told z before c.float) ∷ [] else []) ++ []) e)

pub of-other : (z : Wanted) (before : List Choice) (c : Choice) → beq c.float.wide z.wide ≡ false → [] ≡ told_choices z before (c ∷ [])
of-other z before c e = sym (ap (λ b. (if b then Joins c.float (joins_told z before c.float) ∷ [] else []) ++ []) e)

-- the next one is told of
pub next-told : (z : Wanted) (k : ℕ) (cs : List Choice) (c : Choice) (start old new : List Piece) → slice_get cs k ≡ Some c →
    old ++ in_column (told_choices z (take k cs) (drop k cs)) ≡ start → new ≡ old ++ in_column (told_choices z (take k cs) (c ∷ [])) →
    new ++ in_column (told_choices z (take (suc k) cs) (drop (suc k) cs)) ≡ start
next-told z k cs c start old new there so is =
    let one = if_of_width z c.float (Joins c.float (joins_told z (take k cs) c.float)) in
    ap (λ ds. new ++ in_column (told_choices z ds (drop (suc k) cs))) (take-at cs k c there)
    ∙ then-told old new (one ++ []) (told_choices z (take k cs ++ c ∷ []) (drop (suc k) cs)) is
    ∙ ap (λ ts. old ++ in_column (ts ++ told_choices z (take k cs ++ c ∷ []) (drop (suc k) cs))) (append-nil one)
    ∙ ap (λ ds. old ++ in_column (told_choices z (take k cs) ds)) (sym (slice_get-drop k cs c there))
    ∙ so

-- the choices of later floats
later : Wanted → List Choice → List Float → List Choice
later z before [] = []
later z before (f ∷ fs) = record { float = f; chosen = joins z before f } ∷ later z (before ++ record { float = f; chosen = joins z before f } ∷ []) fs

later-are : (z : Wanted) (before : List Choice) (fs : List Float) → choices_from z before fs ≡ before ++ later z before fs
unfolding later
later-are z before [] = sym (append-nil before)
later-are z before (f ∷ fs) =
    let c : Choice = record { float = f; chosen = joins z before f } in
    later-are z (before ++ c ∷ []) fs ∙ append_assoc before (c ∷ []) (later z (before ++ c ∷ []) fs)

later-told : (z : Wanted) (before : List Choice) (fs : List Float) → told_choices z before (later z before fs) ≡ told_joins z before fs
unfolding later
later-told z before [] = refl
later-told z before (f ∷ fs) =
    let c : Choice = record { float = f; chosen = joins z before f } in
    ap (λ ts. if_of_width z f (Joins f (joins_told z before f)) ++ ts) (later-told z (before ++ c ∷ []) fs)

module _ {X : Type 0} where
  take-front : (xs ys : List X) → take (length xs) (xs ++ ys) ≡ xs
  take-front [] [] = refl
  take-front [] (y ∷ ys) = refl
  take-front (x ∷ xs) ys = ap (λ zs. x ∷ zs) (take-front xs ys)

  drop-front : (xs ys : List X) → drop (length xs) (xs ++ ys) ≡ ys
  drop-front [] ys = refl
  drop-front (x ∷ xs) ys = drop-front xs ys

-- what is told of the floats behind the head, by the choices of the company
pub joins-told : (z : Wanted) (before : List Choice) (fs : List Float) (cs : List Choice) (k : ℕ) → cs ≡ choices_from z before fs → k ≡ length before → told_choices z (take k cs) (drop k cs) ≡ told_joins z before fs
joins-told z before fs cs k are at =
    let all : cs ≡ before ++ later z before fs = are ∙ later-are z before fs in
    ap (λ n. told_choices z (take n cs) (drop n cs)) at
    ∙ ap (λ ds. told_choices z (take (length before) ds) (drop (length before) ds)) all
    ∙ ap (λ ds. told_choices z ds (drop (length before) (before ++ later z before fs))) (take-front before (later z before fs))
    ∙ ap (told_choices z before) (drop-front before (later z before fs))
    ∙ later-told z before fs

-- ---- the floats that it takes

-- one that stays behind is not told to be taken
pub taken-none : (c : Choice) → c.chosen ≡ false → [] ≡ taken_told (c ∷ [])
taken-none c e = sym (ap (λ b. map (λ g. Takes g) (if b then c.float ∷ [] else [])) e)

pub taken-one : (c : Choice) → c.chosen ≡ true → Takes c.float ∷ [] ≡ taken_told (c ∷ [])
taken-one c e = sym (ap (λ b. map (λ g. Takes g) (if b then c.float ∷ [] else [])) e)

taken-step : (c : Choice) (cs : List Choice) → taken_told (c ∷ cs) ≡ taken_told (c ∷ []) ++ taken_told cs
taken-step c cs = by_choice c.chosen
  where
    by_choice : (b : Bool) → map (λ g. Takes g) (if b then c.float ∷ chosen_floats cs else chosen_floats cs) ≡ map (λ g. Takes g) (if b then c.float ∷ [] else []) ++ taken_told cs
    by_choice true = refl
    by_choice false = refl

-- the next one is told of
pub next-taken : (rest left : List Choice) (c : Choice) (start old new : List Piece) → left ≡ c ∷ rest → old ++ in_column (taken_told left) ≡ start → new ≡ old ++ in_column (taken_told (c ∷ [])) → new ++ in_column (taken_told rest) ≡ start
next-taken rest left c start old new are so is =
    then-told old new (taken_told (c ∷ [])) (taken_told rest) is
    ∙ ap (λ ts. old ++ in_column ts) (sym (taken-step c rest))
    ∙ ap (λ ds. old ++ in_column (taken_told ds)) (sym are)
    ∙ so

-- ---- a head

-- what one call tells is what is to be told
pub ok-same : {E : Type 0} (r : Result (Unit {0}) E) (old new : List Piece) (ts us : List ToldColumn) → ts ≡ us → OnOk r (new ≡ old ++ in_column ts) → OnOk r (new ≡ old ++ in_column us)
ok-same (Ok v) old new ts us e h = h ∙ ap (λ xs. old ++ in_column xs) e
ok-same (Err v) old new ts us e h = tt

some-no : (o : Option Test) → is_some o ≡ true → is_yes o ≡ false
some-no None e = cc
some-no (Some t) e = refl

none-yes : (o : Option Test) → is_some o ≡ false → is_yes o ≡ true
none-yes None e = refl
none-yes (Some t) e = cc

-- a float of the other width: nothing is told
pub narrow-told : (z : Wanted) (before : List Float) (f : Float) (fs : List Float) (later : List ToldColumn) (old : List Piece) → beq f.wide z.wide ≡ false → old ++ in_column later ≡ old ++ in_column (told_at z before f fs later)
narrow-told z before f fs later old e = sym (ap (λ b. old ++ in_column (if b then told_float z before f fs later else later)) e)

-- a float of the width that is no head
pub no-head-told : (z : Wanted) (before : List Float) (f : Float) (fs : List Float) (later : List ToldColumn) (old new : List Piece) (t : Alone) → beq f.wide z.wide ≡ true → t ≡ alone_told z before f → is_some t.failed ≡ true →
    new ≡ old ++ in_column (Heads f t ∷ []) → new ++ in_column later ≡ old ++ in_column (told_at z before f fs later)
no-head-told z before f fs later old new t wide told failed is =
    let no : all_hold (alone_tests z before f) ≡ false = sym (yes_is_all (alone_tests z before f)) ∙ ap (λ (u : Alone). is_yes u.failed) (sym told) ∙ some-no t.failed failed in
    then-told old new (Heads f t ∷ []) later is
    ∙ ap (λ u. old ++ in_column (Heads f u ∷ later)) told
    ∙ sym (ap (λ b. old ++ in_column (Heads f (alone_told z before f) ∷ (if b then told_head z before f fs later else later))) no)
    ∙ sym (ap (λ b. old ++ in_column (if b then told_float z before f fs later else later)) wide)

-- a head
head-told : (z : Wanted) (before : List Float) (f : Float) (fs : List Float) (later : List ToldColumn) (old mid new : List Piece) (t : Alone) (made : Bool) → beq f.wide z.wide ≡ true → t ≡ alone_told z before f → is_some t.failed ≡ false →
    mid ≡ old ++ in_column (Heads f t ∷ []) → new ++ in_column (unless_made made later) ≡ mid ++ in_column (told_head z before f fs later) → new ++ in_column (unless_made made later) ≡ old ++ in_column (told_at z before f fs later)
head-told z before f fs later old mid new t made wide told none is so =
    let all : all_hold (alone_tests z before f) ≡ true = sym (yes_is_all (alone_tests z before f)) ∙ ap (λ (u : Alone). is_yes u.failed) (sym told) ∙ none-yes t.failed none in
    so
    ∙ then-told old mid (Heads f t ∷ []) (told_head z before f fs later) is
    ∙ ap (λ u. old ++ in_column (Heads f u ∷ told_head z before f fs later)) told
    ∙ sym (ap (λ b. old ++ in_column (Heads f (alone_told z before f) ∷ (if b then told_head z before f fs later else later))) all)
    ∙ sym (ap (λ b. old ++ in_column (if b then told_float z before f fs later else later)) wide)

pub head-ok : {E : Type 0} (r : Result Bool E) (z : Wanted) (before : List Float) (f : Float) (fs : List Float) (old mid new : List Piece) (t : Alone) → beq f.wide z.wide ≡ true → t ≡ alone_told z before f → is_some t.failed ≡ false →
    mid ≡ old ++ in_column (Heads f t ∷ []) → IfOk r (λ made. (later : List ToldColumn) → new ++ in_column (unless_made made later) ≡ mid ++ in_column (told_head z before f fs later)) →
    IfOk r (λ made. (later : List ToldColumn) → new ++ in_column (unless_made made later) ≡ old ++ in_column (told_at z before f fs later))
head-ok (Ok made) z before f fs old mid new t wide told none is so = λ later. head-told z before f fs later old mid new t made wide told none is (so later)
head-ok (Err e) z before f fs old mid new t wide told none is so = tt

-- ---- the company of a head

some-unmade : (b : Bool) → is_some (if b then None else Some tests.Sum) ≡ true → b ≡ false
some-unmade true e = cc
some-unmade false e = refl

none-made : (b : Bool) → is_some (if b then None else Some tests.Sum) ≡ false → b ≡ true
none-made true e = refl
none-made false e = cc

-- it is not made
pub unmade-told : (z : Wanted) (before : List Float) (f : Float) (fs : List Float) (later : List ToldColumn) (old new : List Piece) (cs : List Choice) (t : Made) → cs ≡ company_of_head z before f fs → t ≡ made_told z cs → is_some t.failed ≡ true →
    new ≡ old ++ in_column (Companied f t ∷ []) → new ++ in_column later ≡ old ++ in_column (told_head z before f fs later)
unmade-told z before f fs later old new cs t are told failed is =
    let is_told : t ≡ made_told z (company_of_head z before f fs) = told ∙ ap (made_told z) are in
    let no : is_made z (company_of_head z before f fs) ≡ false = some-unmade (is_made z (company_of_head z before f fs)) (ap (λ (u : Made). is_some u.failed) (sym is_told) ∙ failed) in
    then-told old new (Companied f t ∷ []) later is
    ∙ ap (λ u. old ++ in_column (Companied f u ∷ later)) is_told
    ∙ sym (ap (λ b. old ++ in_column (if b then told_made z before f fs else Companied f (made_told z (company_of_head z before f fs)) ∷ later)) no)

-- it is made
pub made-is-told : (z : Wanted) (before : List Float) (f : Float) (fs : List Float) (later : List ToldColumn) (old one two new : List Piece) (cs : List Choice) (t : Made) (k : ℕ) → cs ≡ company_of_head z before f fs → k ≡ length before + 1 → t ≡ made_told z cs → is_some t.failed ≡ false →
    one ≡ old ++ in_column (told_choices z (take k cs) (drop k cs)) → two ≡ one ++ in_column (Companied f t ∷ []) → new ≡ two ++ in_column (taken_told cs) → new ++ [] ≡ old ++ in_column (told_head z before f fs later)
made-is-told z before f fs later old one two new cs t k are at told none first second third =
    let company = company_of_head z before f fs in
    let head = passed_over before ++ record { float = f; chosen = true } ∷ [] in
    let is_told : t ≡ made_told z company = told ∙ ap (made_told z) are in
    let made : is_made z company ≡ true = none-made (is_made z company) (ap (λ (u : Made). is_some u.failed) (sym is_told) ∙ none) in
    let joined : told_choices z (take k cs) (drop k cs) ≡ told_joins z head fs = joins-told z head fs cs k are (at ∙ sym (head-length before f)) in
    let last : Companied f t ∷ taken_told cs ≡ Companied f (made_told z company) ∷ taken_told company = (λ i. Companied f (is_told i) ∷ taken_told (are i)) in
    append-nil new ∙ third
    ∙ then-told one two (Companied f t ∷ []) (taken_told cs) second
    ∙ then-told old one (told_choices z (take k cs) (drop k cs)) (Companied f t ∷ taken_told cs) first
    ∙ (λ i. old ++ in_column (joined i ++ last i))
    ∙ sym (ap (λ b. old ++ in_column (if b then told_made z before f fs else Companied f (made_told z company) ∷ later)) made)

-- ---- the floats of a list

-- the next float is told of, and its company is not made
pub next-float-told : (z : Wanted) (all : List Float) (k : ℕ) (f : Float) (start old new : List Piece) → slice_get all k ≡ Some f → old ++ in_column (told_from z (take k all) (drop k all)) ≡ start →
    ((later : List ToldColumn) → new ++ in_column later ≡ old ++ in_column (told_at z (take k all) f (drop (suc k) all) later)) → new ++ in_column (told_from z (take (suc k) all) (drop (suc k) all)) ≡ start
next-float-told z all k f start old new there so is =
    ap (λ fs. new ++ in_column (told_from z fs (drop (suc k) all))) (take-at all k f there)
    ∙ is (told_from z (take k all ++ f ∷ []) (drop (suc k) all))
    ∙ ap (λ fs. old ++ in_column (told_from z (take k all) fs)) (sym (slice_get-drop k all f there))
    ∙ so

-- its company is made
pub last-float-told : (z : Wanted) (all : List Float) (k : ℕ) (f : Float) (start old new : List Piece) → slice_get all k ≡ Some f → old ++ in_column (told_from z (take k all) (drop k all)) ≡ start →
    ((later : List ToldColumn) → new ++ [] ≡ old ++ in_column (told_at z (take k all) f (drop (suc k) all) later)) → new ≡ start
last-float-told z all k f start old new there so is =
    sym (append-nil new)
    ∙ is (told_from z (take k all ++ f ∷ []) (drop (suc k) all))
    ∙ ap (λ fs. old ++ in_column (told_from z (take k all) fs)) (sym (slice_get-drop k all f there))
    ∙ so

-- ---- a column

-- no float has its width
pub no-column : (at : Spot) (z : Wanted) (fs : List Float) (old : List Piece) → has_width z.wide fs ≡ false → old ≡ old ++ tales (column_tales at z fs)
no-column at z fs old none = sym (append-nil old) ∙ sym (ap (λ b. old ++ tales (if b then Begins at z ∷ map (λ t. InColumn t) (told_column z fs) else [])) none)

-- one has
pub column-ok : {E : Type 0} (r : Result (Unit {0}) E) (at : Spot) (z : Wanted) (fs : List Float) (old mid new : List Piece) → has_width z.wide fs ≡ true → mid ≡ old ++ Says (Begins at z) ∷ [] →
    OnOk r (new ≡ mid ++ in_column (told_column z fs)) → OnOk r (new ≡ old ++ tales (column_tales at z fs))
column-ok (Ok v) at z fs old mid new some first h =
    h ∙ ap (λ ps. ps ++ in_column (told_column z fs)) first
    ∙ append_assoc old (Says (Begins at z) ∷ []) (in_column (told_column z fs))
    ∙ sym (ap (λ b. old ++ tales (if b then Begins at z ∷ map (λ t. InColumn t) (told_column z fs) else [])) some)
column-ok (Err e) at z fs old mid new some first h = tt
