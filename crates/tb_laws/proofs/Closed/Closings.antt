-- What a list that waits owes: a firing for each float and note that was taken, and a clear after all that has to ship.
use Rattle.std.proofs.Common.{◌≡◌, refl, ap, ℕ, zero, suc, Bool, true, false, List, [], ◌∷◌, ◌++◌, map, arith}
use Rattle.std.specs.Prelude.{◌==◌, ◌&&◌, if◌then◌else◌}
use Rattle.std.specs.List.{AllByRecursion}
use Rattle.tb_node.specs.declared.Act.{Act}
use Rattle.tb_node.specs.declared.Act.TheVariants as acts
use Rattle.tb_node.specs.PlainNodes.{PlainKind, plain, ins, act, PlainNode, without_acts}
use Rattle.tb_param.specs.declared.SetPlace.{SetPlace}
use Rattle.tb_param.specs.declared.SetPlace.TheVariants as set_places
use Rattle.tb_param.specs.Changes.{set_place}
use Rattle.tb_builder.proofs.Cutting.CutLemmas.{Calm, AllCalm, AllFree}
use Rattle.tb_laws.proofs.Closed.Sorts.{Sort, kind_sort, sorts, Steady, light, blank, real, silent, pause, hold, serve, clear, odd, CalmSort, kind-calm, kind-steady}

-- ---- the walk

-- how floats are taken: whether wide ones go to a list of their own, where they wait for a page, and whether there are two columns
pub record Ways : Type 0 where
  pub second : Bool
  pub two : Bool

-- after a change of columns
abbrev pub turned : Ways → Bool → Ways
turned z two = record { second = z.second; two = two }

-- how many firings are owed when a float was taken, wide or not: a wide one that waits for a page is owed none
abbrev pub owed_after : Ways → Bool → ℕ → ℕ
owed_after z wide n = if wide && (z.second && z.two) then n else suc n

-- a node that ships nothing of the galley, one that has to ship, the taking of a float, wide or not, or of a note, a change of columns, the setting of a measure, the firing for a float or note, and a clear
pub data Token : Type 0 where
  quiet : Token
  heavy : Token
  taking : Bool → Token
  changing : Bool → Token
  measuring : Token
  serving : Token
  clearing : Token

-- a walk over what waits: so many firings are owed, and the flag says that nothing that has to ship came since a clear; a clear comes when none is owed, a change of columns, the setting of a measure and the list's end when nothing came
abbrev pub Closes : Ways → ℕ → Bool → List Token → Type 0
Closes z n o [] = o ≡ true
Closes z n o (quiet ∷ xs) = Closes z n o xs
Closes z n o (heavy ∷ xs) = Closes z n false xs
Closes z n o (taking wide ∷ xs) = Closes z (owed_after z wide n) false xs
Closes z n o (changing two ∷ xs) = (o ≡ true) × Closes (turned z two) n o xs
Closes z n o (measuring ∷ xs) = (o ≡ true) × Closes z n o xs
Closes z zero o (serving ∷ xs) = ⊥
Closes z (suc n) o (serving ∷ xs) = Closes z n false xs
Closes z zero o (clearing ∷ xs) = Closes z zero true xs
Closes z (suc n) o (clearing ∷ xs) = ⊥

pub never : {X : Type 0} → false ≡ true → X
never h = let no : ⊥ = grind (arith, h) in absurd no

-- if something came the walk asks for more
weaker : (z : Ways) (n : ℕ) (xs : List Token) → Closes z n false xs → Closes z n true xs
weaker z n [] h = refl
weaker z n (quiet ∷ xs) h = weaker z n xs h
weaker z n (heavy ∷ xs) h = h
weaker z n (taking wide ∷ xs) h = h
weaker z n (changing two ∷ xs) h = never h.0
weaker z n (measuring ∷ xs) h = never h.0
weaker z zero (serving ∷ xs) h = absurd h
weaker z (suc n) (serving ∷ xs) h = h
weaker z zero (clearing ∷ xs) h = h
weaker z (suc n) (clearing ∷ xs) h = absurd h

pub closes-any : (z : Ways) (n : ℕ) (o : Bool) (xs : List Token) → Closes z n false xs → Closes z n o xs
closes-any z n true xs h = weaker z n xs h
closes-any z n false xs h = h

-- ---- nodes that may be put in between

abbrev pub Quiet : Token → Type 0
Quiet quiet = Unit {0}
Quiet heavy = ⊥
Quiet (taking wide) = ⊥
Quiet (changing two) = ⊥
Quiet measuring = ⊥
Quiet serving = ⊥
Quiet clearing = ⊥

abbrev pub Harmless : Token → Type 0
Harmless quiet = Unit {0}
Harmless heavy = Unit {0}
Harmless (taking wide) = ⊥
Harmless (changing two) = ⊥
Harmless measuring = ⊥
Harmless serving = ⊥
Harmless clearing = ⊥

pub quiet-between : (z : Ways) (n : ℕ) (o : Bool) (xs ys : List Token) → AllByRecursion Quiet xs → Closes z n o ys → Closes z n o (xs ++ ys)
quiet-between z n o [] ys q h = h
quiet-between z n o (quiet ∷ xs) ys q h = quiet-between z n o xs ys q.1 h
quiet-between z n o (heavy ∷ xs) ys q h = absurd q.0
quiet-between z n o (taking wide ∷ xs) ys q h = absurd q.0
quiet-between z n o (changing two ∷ xs) ys q h = absurd q.0
quiet-between z n o (measuring ∷ xs) ys q h = absurd q.0
quiet-between z n o (serving ∷ xs) ys q h = absurd q.0
quiet-between z n o (clearing ∷ xs) ys q h = absurd q.0

pub harmless-between : (z : Ways) (n : ℕ) (o : Bool) (xs ys : List Token) → AllByRecursion Harmless xs → Closes z n false ys → Closes z n o (xs ++ ys)
harmless-between z n o [] ys q h = closes-any z n o ys h
harmless-between z n o (quiet ∷ xs) ys q h = harmless-between z n o xs ys q.1 h
harmless-between z n o (heavy ∷ xs) ys q h = harmless-between z n false xs ys q.1 h
harmless-between z n o (taking wide ∷ xs) ys q h = absurd q.0
harmless-between z n o (changing two ∷ xs) ys q h = absurd q.0
harmless-between z n o (measuring ∷ xs) ys q h = absurd q.0
harmless-between z n o (serving ∷ xs) ys q h = absurd q.0
harmless-between z n o (clearing ∷ xs) ys q h = absurd q.0

-- ---- a front in which nothing is served and nothing cleared

abbrev pub Passed : Token → Type 0
Passed quiet = Unit {0}
Passed heavy = Unit {0}
Passed (taking wide) = Unit {0}
Passed (changing two) = Unit {0}
Passed measuring = Unit {0}
Passed serving = ⊥
Passed clearing = ⊥

-- how many firings are owed after it, and whether still nothing came
abbrev pub owed_all : Ways → ℕ → List Token → ℕ
owed_all z n [] = n
owed_all z n (quiet ∷ xs) = owed_all z n xs
owed_all z n (heavy ∷ xs) = owed_all z n xs
owed_all z n (taking wide ∷ xs) = owed_all z (owed_after z wide n) xs
owed_all z n (changing two ∷ xs) = owed_all (turned z two) n xs
owed_all z n (measuring ∷ xs) = owed_all z n xs
owed_all z n (serving ∷ xs) = owed_all z n xs
owed_all z n (clearing ∷ xs) = owed_all z n xs

-- and how floats are taken
abbrev pub ways_all : Ways → List Token → Ways
ways_all z [] = z
ways_all z (quiet ∷ xs) = ways_all z xs
ways_all z (heavy ∷ xs) = ways_all z xs
ways_all z (taking wide ∷ xs) = ways_all z xs
ways_all z (changing two ∷ xs) = ways_all (turned z two) xs
ways_all z (measuring ∷ xs) = ways_all z xs
ways_all z (serving ∷ xs) = ways_all z xs
ways_all z (clearing ∷ xs) = ways_all z xs

abbrev pub done_all : Bool → List Token → Bool
done_all o [] = o
done_all o (quiet ∷ xs) = done_all o xs
done_all o (heavy ∷ xs) = done_all false xs
done_all o (taking wide ∷ xs) = done_all false xs
done_all o (changing two ∷ xs) = done_all o xs
done_all o (measuring ∷ xs) = done_all o xs
done_all o (serving ∷ xs) = done_all false xs
done_all o (clearing ∷ xs) = done_all true xs

pub closes-after : (xs ys : List Token) (z : Ways) (n : ℕ) (o : Bool) → AllByRecursion Passed xs → Closes z n o (xs ++ ys) → Closes (ways_all z xs) (owed_all z n xs) (done_all o xs) ys
closes-after [] ys z n o c h = h
closes-after (quiet ∷ xs) ys z n o c h = closes-after xs ys z n o c.1 h
closes-after (heavy ∷ xs) ys z n o c h = closes-after xs ys z n false c.1 h
closes-after (taking wide ∷ xs) ys z n o c h = closes-after xs ys z (owed_after z wide n) false c.1 h
closes-after (changing two ∷ xs) ys z n o c h = closes-after xs ys (turned z two) n o c.1 h.1
closes-after (measuring ∷ xs) ys z n o c h = closes-after xs ys z n o c.1 h.1
closes-after (serving ∷ xs) ys z n o c h = absurd c.0
closes-after (clearing ∷ xs) ys z n o c h = absurd c.0

-- nothing of it has to ship, and nothing is taken
abbrev pub Still : Token → Type 0
Still quiet = Unit {0}
Still heavy = ⊥
Still (taking wide) = ⊥
Still (changing two) = Unit {0}
Still measuring = Unit {0}
Still serving = ⊥
Still clearing = ⊥

came : (xs : List Token) → AllByRecursion Passed xs → done_all false xs ≡ true → ⊥
came [] c e = never e
came (quiet ∷ xs) c e = came xs c.1 e
came (heavy ∷ xs) c e = came xs c.1 e
came (taking wide ∷ xs) c e = came xs c.1 e
came (changing two ∷ xs) c e = came xs c.1 e
came (measuring ∷ xs) c e = came xs c.1 e
came (serving ∷ xs) c e = absurd c.0
came (clearing ∷ xs) c e = absurd c.0

-- if nothing came after the front, nothing came before it and in it
pub nothing-came : (xs : List Token) (o : Bool) → AllByRecursion Passed xs → done_all o xs ≡ true → (o ≡ true) × AllByRecursion Still xs
nothing-came [] o c e = (e, tt)
nothing-came (quiet ∷ xs) o c e = let h = nothing-came xs o c.1 e in (h.0, (tt, h.1))
nothing-came (heavy ∷ xs) o c e = absurd (came xs c.1 e)
nothing-came (taking wide ∷ xs) o c e = absurd (came xs c.1 e)
nothing-came (changing two ∷ xs) o c e = let h = nothing-came xs o c.1 e in (h.0, (tt, h.1))
nothing-came (measuring ∷ xs) o c e = let h = nothing-came xs o c.1 e in (h.0, (tt, h.1))
nothing-came (serving ∷ xs) o c e = absurd c.0
nothing-came (clearing ∷ xs) o c e = absurd c.0

-- ---- the tokens of nodes

abbrev pub sort_token : Sort → Token
sort_token light = quiet
sort_token blank = quiet
sort_token real = heavy
sort_token silent = quiet
sort_token pause = quiet
sort_token hold = heavy
sort_token serve = serving
sort_token clear = clearing
sort_token odd = heavy

-- a parameter that may be set anywhere is set quietly; any other only where nothing came
abbrev pub set_token : SetPlace → Token
set_token set_places.Anywhere = quiet
set_token set_places.AfterClear = measuring
set_token set_places.Nowhere = measuring

abbrev pub act_token : Act → Token
act_token (acts.Take f) = taking f.wide
act_token (acts.TakeMargin m) = taking false
act_token (acts.Suppress area) = quiet
act_token (acts.Page n) = quiet
act_token (acts.Head f) = heavy
act_token (acts.Columns two) = changing two
act_token (acts.Set c) = set_token (set_place c.field)

-- what makes a page higher ships nothing, and any other insertion has to ship
abbrev pub ins_token : Bool → Token
ins_token true = quiet
ins_token false = heavy

abbrev pub kind_token : PlainKind → Token
kind_token (plain m) = sort_token (kind_sort (plain m))
kind_token (ins i) = ins_token (i.class == 255)
kind_token (act a) = act_token a

abbrev pub tokens : List PlainNode → List Token
tokens ns = map (λ n. kind_token n.kind) ns

pub tokens-append : (xs ys : List PlainNode) → tokens (xs ++ ys) ≡ tokens xs ++ tokens ys
tokens-append [] ys = refl
tokens-append (x ∷ xs) ys = ap (λ l. kind_token x.kind ∷ l) (tokens-append xs ys)

sort-passed : (s : Sort) → CalmSort s → Passed (sort_token s)
sort-passed light c = tt
sort-passed blank c = tt
sort-passed real c = tt
sort-passed silent c = tt
sort-passed s c = absurd c

set-passed : (x : SetPlace) → Passed (set_token x)
set-passed set_places.Anywhere = tt
set-passed x = tt

act-passed : (a : Act) → Passed (act_token a)
act-passed (acts.Take f) = tt
act-passed (acts.Set c) = set-passed (set_place c.field)
act-passed a = tt

ins-passed : (t : Bool) → Passed (ins_token t)
ins-passed true = tt
ins-passed false = tt

kind-passed : (k : PlainKind) → Calm k → Passed (kind_token k)
kind-passed (plain m) c = sort-passed (kind_sort (plain m)) (kind-calm (plain m) c)
kind-passed (ins i) c = ins-passed (i.class == 255)
kind-passed (act a) c = act-passed a

pub calm-passed : (ns : List PlainNode) → AllCalm ns → AllByRecursion Passed (tokens ns)
calm-passed [] c = tt
calm-passed (n ∷ ns) c = (kind-passed n.kind c.0, calm-passed ns c.1)

sort-harmless : (s : Sort) → Steady s → Harmless (sort_token s)
sort-harmless light c = tt
sort-harmless blank c = tt
sort-harmless real c = tt
sort-harmless silent c = tt
sort-harmless s c = absurd c

ins-harmless : (t : Bool) → Harmless (ins_token t)
ins-harmless true = tt
ins-harmless false = tt

kind-harmless : (k : PlainKind) → Steady (kind_sort k) → Harmless (kind_token k)
kind-harmless (plain m) c = sort-harmless (kind_sort (plain m)) c
kind-harmless (ins i) c = ins-harmless (i.class == 255)
kind-harmless (act a) c = absurd c

-- calm nodes that are no acts are harmless
pub steady-harmless : (ns : List PlainNode) → AllByRecursion Steady (sorts ns) → AllByRecursion Harmless (tokens ns)
steady-harmless [] c = tt
steady-harmless (n ∷ ns) c = (kind-harmless n.kind c.0, steady-harmless ns c.1)

pub free-harmless : (ns : List PlainNode) → AllCalm ns → AllFree ns → AllByRecursion Harmless (tokens ns)
free-harmless [] c f = tt
free-harmless (n ∷ ns) c f = (kind-harmless n.kind (kind-steady n.kind c.0 f.0), free-harmless ns c.1 f.1)

sort-quiet : (s : Sort) → Still (sort_token s) → Quiet (sort_token s)
sort-quiet light c = tt
sort-quiet blank c = tt
sort-quiet silent c = tt
sort-quiet pause c = tt
sort-quiet s c = absurd c

ins-quiet : (t : Bool) → Still (ins_token t) → Quiet (ins_token t)
ins-quiet true c = tt
ins-quiet false c = absurd c

-- a quiet insertion is of class 255
pub ins-last : (t : Bool) → Quiet (ins_token t) → t ≡ true
ins-last true q = refl
ins-last false q = absurd q

pub last-quiet : (t : Bool) → t ≡ true → Quiet (ins_token t)
last-quiet true e = tt
last-quiet false e = never e

still-more : (l : ℕ) (k : PlainKind) (ns : List PlainNode) → Still (kind_token k) → AllByRecursion Quiet (tokens (without_acts ns)) → AllByRecursion Quiet (tokens (without_acts (record { line = l; kind = k } ∷ ns)))
still-more l (plain m) ns c h = (sort-quiet (kind_sort (plain m)) c, h)
still-more l (ins i) ns c h = (ins-quiet (i.class == 255) c, h)
still-more l (act a) ns c h = h

-- a front in which nothing comes is quiet without its acts
pub still-quiet : (ns : List PlainNode) → AllByRecursion Still (tokens ns) → AllByRecursion Quiet (tokens (without_acts ns))
still-quiet [] c = tt
still-quiet (n ∷ ns) c = still-more n.line n.kind ns c.0 (still-quiet ns c.1)
