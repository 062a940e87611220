-- A page is cut from a list that closes: what its acts and its break leave of the list closes again.
use Rattle.std.proofs.Common.{◌≡◌, ◌==◌, refl, sym, ◌∙◌, ap, subst, ℕ, zero, suc, ℤ, Bool, true, false, List, [], ◌∷◌, ◌++◌, take, drop}
use Rattle.std.specs.List.{AllByRecursion}
use Rattle.tb_scaled.specs.Scaled.{inf_penalty}
use Rattle.tb_node.specs.declared.Act.{Act}
use Rattle.tb_node.specs.declared.Act.TheVariants as acts
use Rattle.tb_node.specs.PlainNodes.{hbox, rule, pen, PlainKind, plain, ins, act, PlainNode, without_acts}
use Rattle.tb_param.specs.declared.SetPlace.{SetPlace}
use Rattle.tb_param.specs.declared.SetPlace.TheVariants as set_places
use Rattle.tb_param.specs.Changes.{set_place}
use Rattle.tb_break.specs.PageTop.{pruned_nodes}
use Rattle.tb_builder.specs.Reach.{Reach}
use Rattle.tb_builder.specs.FiredPages.{with_spent_break, penalty_at}
use Rattle.tb_builder.proofs.Cutting.CutLemmas.{AllCalm, ActFree, FirstFree, AllFree, CutAt, acts_of, acted_of, acts-free}
use Rattle.tb_laws.proofs.Closed.Sorts.{Sort, kind_sort, sorts, pen_sort, pen-sorts, Stands, none, light, blank, real, silent, pause, hold, serve, clear, odd}
use Rattle.tb_laws.proofs.Closed.SortLemmas.{free-drop}
use Rattle.tb_laws.proofs.Closed.Closings.{Ways, turned, owed_after, ways_all, never, Token, quiet, heavy, taking, changing, measuring, serving, clearing, Closes, closes-any, Quiet, Harmless, quiet-between, harmless-between, Passed, owed_all, done_all, closes-after, Still, nothing-came, sort_token, set_token, act_token, ins_token, kind_token, tokens, tokens-append, calm-passed, free-harmless, still-quiet}
use Rattle.tb_laws.proofs.PageBreaks.PausedPages.{calm-acts}

-- ---- the top of a page

-- what holds after one token holds with it
behind : (t : Token) (xs ys : List Token) → ((z : Ways) (n : ℕ) (o : Bool) → Closes z n o xs → Closes z n o ys) → (z : Ways) (n : ℕ) (o : Bool) → Closes z n o (t ∷ xs) → Closes z n o (t ∷ ys)
behind quiet xs ys h z n o c = h z n o c
behind heavy xs ys h z n o c = h z n false c
behind (taking wide) xs ys h z n o c = h z (owed_after z wide n) false c
behind (changing two) xs ys h z n o c = (c.0, h (turned z two) n o c.1)
behind measuring xs ys h z n o c = (c.0, h z n o c.1)
behind serving xs ys h z zero o c = absurd c
behind serving xs ys h z (suc n) o c = h z n false c
behind clearing xs ys h z zero o c = h z zero true c
behind clearing xs ys h z (suc n) o c = absurd c

pen-pruned : (ns : List PlainNode) (zs : List Token) → ((b : Bool) (z : Ways) (n : ℕ) (o : Bool) → Stands none b (sorts ns) → Closes z n o (tokens ns) → Closes z n o zs) → (p : ℤ) (b : Bool) (z : Ways) (n : ℕ) (o : Bool) → Stands none b (pen_sort p ∷ sorts ns) → Closes z n o (sort_token (pen_sort p) ∷ tokens ns) → Closes z n o zs
pen-pruned ns zs h p = pen-sorts (λ x. (b : Bool) (z : Ways) (n : ℕ) (o : Bool) → Stands none b (x ∷ sorts ns) → Closes z n o (sort_token x ∷ tokens ns) → Closes z n o zs) (λ b z n o s c. h b z n o s.1 c) (λ b z n o s c. h b z n o s.1 c) at_hold (λ b z n o s c. absurd s.0) (λ b z n o s c. absurd s.0) (λ b z n o s c. absurd s.0) p
  where
    at_hold : (b : Bool) (z : Ways) (n : ℕ) (o : Bool) → Stands none b (hold ∷ sorts ns) → Closes z n o (heavy ∷ tokens ns) → Closes z n o zs
    at_hold true z n o s c = absurd s.0
    at_hold false z n o s c = closes-any z n o zs (h true z n false s.1 c)

node-pruned : (t : ℤ) (ns : List PlainNode) → ((b : Bool) (z : Ways) (n : ℕ) (o : Bool) → Stands none b (sorts ns) → Closes z n o (tokens ns) → Closes z n o (tokens (pruned_nodes t ns))) → (l : ℕ) (k : PlainKind) (b : Bool) (z : Ways) (n : ℕ) (o : Bool) → Stands none b (kind_sort k ∷ sorts ns) → Closes z n o (kind_token k ∷ tokens ns) → Closes z n o (tokens (pruned_nodes t (record { line = l; kind = k } ∷ ns)))
node-pruned t ns h l (plain (hbox w a d)) b z n o s c = c
node-pruned t ns h l (plain (rule w a d)) b z n o s c = c
node-pruned t ns h l (plain (pen p)) b z n o s c = pen-pruned ns (tokens (pruned_nodes t ns)) h p b z n o s c
node-pruned t ns h l (plain k) b z n o s c = h b z n o s.1 c
node-pruned t ns h l (ins i) b z n o s c = behind (ins_token (i.class == 255)) (tokens ns) (tokens (pruned_nodes t ns)) (λ z n o k. h b z n o s.1 k) z n o c
node-pruned t ns h l (act a) true z n o s c = absurd s.0
node-pruned t ns h l (act a) false z n o s c = behind (act_token a) (tokens ns) (tokens (pruned_nodes t ns)) (λ z n o k. h false z n o s.1 k) z n o c

pub pruned-closes : (t : ℤ) (ns : List PlainNode) (b : Bool) (z : Ways) (n : ℕ) (o : Bool) → Stands none b (sorts ns) → Closes z n o (tokens ns) → Closes z n o (tokens (pruned_nodes t ns))
pruned-closes t [] b z n o s c = c
pruned-closes t (x ∷ ns) b z n o s c = node-pruned t ns (λ b z n o s c. pruned-closes t ns b z n o s c) x.line x.kind b z n o s c

-- ---- the acts of a page

-- only a parameter that may be set anywhere is set if something came
abbrev pub SetCloses : Bool → SetPlace → Type 0
SetCloses o set_places.Anywhere = Unit {0}
SetCloses o set_places.AfterClear = o ≡ true
SetCloses o set_places.Nowhere = o ≡ true

-- a change of columns comes only if nothing came, and so does the setting of a measure
abbrev pub ActsClose : Bool → List Act → Type 0
ActsClose o [] = Unit {0}
ActsClose o (acts.Take f ∷ ds) = ActsClose false ds
ActsClose o (acts.TakeMargin m ∷ ds) = ActsClose false ds
ActsClose o (acts.Suppress area ∷ ds) = ActsClose o ds
ActsClose o (acts.Page n ∷ ds) = ActsClose o ds
ActsClose o (acts.Head f ∷ ds) = ActsClose false ds
ActsClose o (acts.Columns two ∷ ds) = (o ≡ true) × ActsClose o ds
ActsClose o (acts.Set c ∷ ds) = SetCloses o (set_place c.field) × ActsClose o ds

-- each float and note that is taken is owed a firing
abbrev pub owed_acts : Ways → ℕ → List Act → ℕ
owed_acts z n [] = n
owed_acts z n (acts.Take f ∷ ds) = owed_acts z (owed_after z f.wide n) ds
owed_acts z n (acts.TakeMargin m ∷ ds) = owed_acts z (suc n) ds
owed_acts z n (acts.Suppress area ∷ ds) = owed_acts z n ds
owed_acts z n (acts.Page number ∷ ds) = owed_acts z n ds
owed_acts z n (acts.Head f ∷ ds) = owed_acts z n ds
owed_acts z n (acts.Columns two ∷ ds) = owed_acts (turned z two) n ds
owed_acts z n (acts.Set c ∷ ds) = owed_acts z n ds

-- how floats are taken after the acts
abbrev pub ways_acts : Ways → List Act → Ways
ways_acts z [] = z
ways_acts z (acts.Take f ∷ ds) = ways_acts z ds
ways_acts z (acts.TakeMargin m ∷ ds) = ways_acts z ds
ways_acts z (acts.Suppress area ∷ ds) = ways_acts z ds
ways_acts z (acts.Page n ∷ ds) = ways_acts z ds
ways_acts z (acts.Head f ∷ ds) = ways_acts z ds
ways_acts z (acts.Columns two ∷ ds) = ways_acts (turned z two) ds
ways_acts z (acts.Set c ∷ ds) = ways_acts z ds

abbrev pub AllStill : List Act → Type 0
AllStill = AllByRecursion (λ a. Still (act_token a))

sort-owed : (s : Sort) (z : Ways) (n : ℕ) (xs : List Token) → owed_all z n (sort_token s ∷ xs) ≡ owed_all z n xs
sort-owed light z n xs = refl
sort-owed s z n xs = refl

ins-owed : (t : Bool) (z : Ways) (n : ℕ) (xs : List Token) → owed_all z n (ins_token t ∷ xs) ≡ owed_all z n xs
ins-owed true z n xs = refl
ins-owed false z n xs = refl

set-owed : (x : SetPlace) (z : Ways) (n : ℕ) (xs : List Token) → owed_all z n (set_token x ∷ xs) ≡ owed_all z n xs
set-owed set_places.Anywhere z n xs = refl
set-owed x z n xs = refl

node-owed : (z : Ways) (n : ℕ) (k : PlainKind) (ns : List PlainNode) → ((z : Ways) (n : ℕ) → owed_all z n (tokens ns) ≡ owed_acts z n (acts_of ns)) → (l : ℕ) → owed_all z n (kind_token k ∷ tokens ns) ≡ owed_acts z n (acts_of (record { line = l; kind = k } ∷ ns))
node-owed z n (plain m) ns h l = sort-owed (kind_sort (plain m)) z n (tokens ns) ∙ h z n
node-owed z n (ins i) ns h l = ins-owed (i.class == 255) z n (tokens ns) ∙ h z n
node-owed z n (act (acts.Take f)) ns h l = h z (owed_after z f.wide n)
node-owed z n (act (acts.TakeMargin m)) ns h l = h z (suc n)
node-owed z n (act (acts.Suppress area)) ns h l = h z n
node-owed z n (act (acts.Page number)) ns h l = h z n
node-owed z n (act (acts.Head f)) ns h l = h z n
node-owed z n (act (acts.Columns two)) ns h l = h (turned z two) n
node-owed z n (act (acts.Set c)) ns h l = set-owed (set_place c.field) z n (tokens ns) ∙ h z n

all-owed : (z : Ways) (n : ℕ) (ns : List PlainNode) → owed_all z n (tokens ns) ≡ owed_acts z n (acts_of ns)
all-owed z n [] = refl
all-owed z n (x ∷ ns) = node-owed z n x.kind ns (λ z n. all-owed z n ns) x.line

sort-ways : (s : Sort) (z : Ways) (xs : List Token) → ways_all z (sort_token s ∷ xs) ≡ ways_all z xs
sort-ways light z xs = refl
sort-ways s z xs = refl

ins-ways : (t : Bool) (z : Ways) (xs : List Token) → ways_all z (ins_token t ∷ xs) ≡ ways_all z xs
ins-ways true z xs = refl
ins-ways false z xs = refl

set-ways : (x : SetPlace) (z : Ways) (xs : List Token) → ways_all z (set_token x ∷ xs) ≡ ways_all z xs
set-ways set_places.Anywhere z xs = refl
set-ways x z xs = refl

node-ways : (z : Ways) (k : PlainKind) (ns : List PlainNode) → ((z : Ways) → ways_all z (tokens ns) ≡ ways_acts z (acts_of ns)) → (l : ℕ) → ways_all z (kind_token k ∷ tokens ns) ≡ ways_acts z (acts_of (record { line = l; kind = k } ∷ ns))
node-ways z (plain m) ns h l = sort-ways (kind_sort (plain m)) z (tokens ns) ∙ h z
node-ways z (ins i) ns h l = ins-ways (i.class == 255) z (tokens ns) ∙ h z
node-ways z (act (acts.Columns two)) ns h l = h (turned z two)
node-ways z (act (acts.Set c)) ns h l = set-ways (set_place c.field) z (tokens ns) ∙ h z
node-ways z k ns h l = h z

all-ways : (z : Ways) (ns : List PlainNode) → ways_all z (tokens ns) ≡ ways_acts z (acts_of ns)
all-ways z [] = refl
all-ways z (x ∷ ns) = node-ways z x.kind ns (λ z. all-ways z ns) x.line

set-weaker : (x : SetPlace) → SetCloses false x → SetCloses true x
set-weaker set_places.Anywhere h = tt
set-weaker x h = refl

weaker : (ds : List Act) → ActsClose false ds → ActsClose true ds
weaker [] h = tt
weaker (acts.Take f ∷ ds) h = h
weaker (acts.TakeMargin m ∷ ds) h = h
weaker (acts.Suppress area ∷ ds) h = weaker ds h
weaker (acts.Page n ∷ ds) h = weaker ds h
weaker (acts.Head f ∷ ds) h = h
weaker (acts.Columns two ∷ ds) h = never h.0
weaker (acts.Set c ∷ ds) h = (set-weaker (set_place c.field) h.0, weaker ds h.1)

acts-any : (o : Bool) (ds : List Act) → ActsClose false ds → ActsClose o ds
acts-any true ds h = weaker ds h
acts-any false ds h = h

sort-acts : (s : Sort) (xs : List Token) (ds : List Act) → ((z : Ways) (n : ℕ) (o : Bool) → Closes z n o xs → ActsClose o ds) → (z : Ways) (n : ℕ) (o : Bool) → Passed (sort_token s) → Closes z n o (sort_token s ∷ xs) → ActsClose o ds
sort-acts real xs ds h z n o p c = acts-any o ds (h z n false c)
sort-acts hold xs ds h z n o p c = acts-any o ds (h z n false c)
sort-acts serve xs ds h z n o p c = absurd p
sort-acts clear xs ds h z n o p c = absurd p
sort-acts odd xs ds h z n o p c = acts-any o ds (h z n false c)
sort-acts s xs ds h z n o p c = h z n o c

ins-acts : (t : Bool) (xs : List Token) (ds : List Act) → ((z : Ways) (n : ℕ) (o : Bool) → Closes z n o xs → ActsClose o ds) → (z : Ways) (n : ℕ) (o : Bool) → Closes z n o (ins_token t ∷ xs) → ActsClose o ds
ins-acts true xs ds h z n o c = h z n o c
ins-acts false xs ds h z n o c = acts-any o ds (h z n false c)

set-acts : (x : SetPlace) (xs : List Token) (ds : List Act) → ((z : Ways) (n : ℕ) (o : Bool) → Closes z n o xs → ActsClose o ds) → (z : Ways) (n : ℕ) (o : Bool) → Closes z n o (set_token x ∷ xs) → SetCloses o x × ActsClose o ds
set-acts set_places.Anywhere xs ds h z n o c = (tt, h z n o c)
set-acts x xs ds h z n o c = (c.0, h z n o c.1)

node-acts : (k : PlainKind) (l : ℕ) (ns : List PlainNode) (xs : List Token) → ((z : Ways) (n : ℕ) (o : Bool) → Closes z n o xs → ActsClose o (acts_of ns)) → (z : Ways) (n : ℕ) (o : Bool) → Passed (kind_token k) → Closes z n o (kind_token k ∷ xs) → ActsClose o (acts_of (record { line = l; kind = k } ∷ ns))
node-acts (plain m) l ns xs h z n o p c = sort-acts (kind_sort (plain m)) xs (acts_of ns) h z n o p c
node-acts (ins i) l ns xs h z n o p c = ins-acts (i.class == 255) xs (acts_of ns) h z n o c
node-acts (act (acts.Take f)) l ns xs h z n o p c = h z (owed_after z f.wide n) false c
node-acts (act (acts.TakeMargin m)) l ns xs h z n o p c = h z (suc n) false c
node-acts (act (acts.Suppress area)) l ns xs h z n o p c = h z n o c
node-acts (act (acts.Page number)) l ns xs h z n o p c = h z n o c
node-acts (act (acts.Head f)) l ns xs h z n o p c = h z n false c
node-acts (act (acts.Columns two)) l ns xs h z n o p c = (c.0, h (turned z two) n o c.1)
node-acts (act (acts.Set c)) l ns xs h z n o p d = set-acts (set_place c.field) xs (acts_of ns) h z n o d

front-acts : (ns : List PlainNode) (ys : List Token) (z : Ways) (n : ℕ) (o : Bool) → AllByRecursion Passed (tokens ns) → Closes z n o (tokens ns ++ ys) → ActsClose o (acts_of ns)
front-acts [] ys z n o p c = tt
front-acts (x ∷ ns) ys z n o p c = node-acts x.kind x.line ns (tokens ns ++ ys) (λ z n o c. front-acts ns ys z n o p.1 c) z n o p.0 c

node-still : (k : PlainKind) (l : ℕ) (ns : List PlainNode) → Still (kind_token k) → AllStill (acts_of ns) → AllStill (acts_of (record { line = l; kind = k } ∷ ns))
node-still (plain m) l ns s h = h
node-still (ins i) l ns s h = h
node-still (act a) l ns s h = (s, h)

acts-still : (ns : List PlainNode) → AllByRecursion Still (tokens ns) → AllStill (acts_of ns)
acts-still [] s = tt
acts-still (x ∷ ns) s = node-still x.kind x.line ns s.0 (acts-still ns s.1)

-- ---- the page

pub tokens-take : (P : Token → Type 0) (k : ℕ) (ns : List PlainNode) → AllByRecursion P (tokens ns) → AllByRecursion P (tokens (take k ns))
tokens-take P zero ns h = tt
tokens-take P (suc k) [] h = tt
tokens-take P (suc k) (n ∷ ns) h = (h.0, tokens-take P k ns h.1)

tokens-drop : (P : Token → Type 0) (k : ℕ) (ns : List PlainNode) → AllByRecursion P (tokens ns) → AllByRecursion P (tokens (drop k ns))
tokens-drop P zero ns h = h
tokens-drop P (suc k) [] h = tt
tokens-drop P (suc k) (n ∷ ns) h = tokens-drop P k ns h.1

-- what a page leaves: so many firings are owed after its acts; the list from the stop on closes, and so does that from the break on; if nothing came up to the stop, nothing was there before, and all that was passed is quiet
pub record PageCloses (z : Ways) (n : ℕ) (o : Bool) (k : ℕ) (w : Reach) : Type 0 where
  pub done : Bool
  pub acts_close : ActsClose o (acted_of w.reached)
  pub beyond : Closes (ways_acts z (acted_of w.reached)) (owed_acts z n (acted_of w.reached)) done (tokens w.beyond)
  pub rest : Closes (ways_acts z (acted_of w.reached)) (owed_acts z n (acted_of w.reached)) done (tokens (drop k w.passed ++ w.beyond))
  pub first : FirstFree (drop k w.passed ++ w.beyond)
  pub still : done ≡ true → (o ≡ true) × AllByRecursion Quiet (tokens w.passed) × AllStill (acted_of w.reached)

pub cut-closes : (ns : List PlainNode) (w : Reach) (z : Ways) (n : ℕ) (o : Bool) (k : ℕ) → CutAt [] ns w → Closes z n o (tokens ns) → PageCloses z n o k w
cut-closes ns w z n o k h c = record {
  done = done_all o (tokens h.front);
  acts_close = subst (ActsClose o) (sym h.acts) (front-acts h.front (tokens w.beyond) z n o passed whole);
  beyond = behind_front;
  rest = subst (Closes (ways_acts z (acted_of w.reached)) (owed_acts z n (acted_of w.reached)) (done_all o (tokens h.front))) (sym (tokens-append (drop k w.passed) w.beyond)) (by_done (done_all o (tokens h.front)) refl behind_front);
  first = free-drop k w.passed w.beyond (subst AllFree (sym h.passed) (acts-free h.front)) h.first;
  still = λ e. let q = nothing-came (tokens h.front) o passed e in (q.0, subst (λ l. AllByRecursion Quiet (tokens l)) (sym h.passed) (still-quiet h.front q.1), subst AllStill (sym h.acts) (acts-still h.front q.1));
}
  where
    passed : AllByRecursion Passed (tokens h.front)
    passed = calm-passed h.front h.calm

    whole : Closes z n o (tokens h.front ++ tokens w.beyond)
    whole = subst (Closes z n o) (tokens-append h.front w.beyond) (subst (λ l. Closes z n o (tokens l)) h.whole c)

    behind_front : Closes (ways_acts z (acted_of w.reached)) (owed_acts z n (acted_of w.reached)) (done_all o (tokens h.front)) (tokens w.beyond)
    behind_front = subst (λ y. Closes y (owed_acts z n (acted_of w.reached)) (done_all o (tokens h.front)) (tokens w.beyond)) (all-ways z h.front ∙ ap (ways_acts z) (sym h.acts)) (subst (λ m. Closes (ways_all z (tokens h.front)) m (done_all o (tokens h.front)) (tokens w.beyond)) (all-owed z n h.front ∙ ap (owed_acts z n) (sym h.acts)) (closes-after (tokens h.front) (tokens w.beyond) z n o passed whole))

    harmless : AllByRecursion Harmless (tokens (drop k w.passed))
    harmless = tokens-drop Harmless k w.passed (subst (λ l. AllByRecursion Harmless (tokens l)) (sym h.passed) (front-harmless h.front h.calm))
      where
        front-harmless : (ns : List PlainNode) → AllCalm ns → AllByRecursion Harmless (tokens (without_acts ns))
        front-harmless ns c = free-harmless (without_acts ns) (calm-acts ns c) (acts-free ns)

    by_done : (d : Bool) → done_all o (tokens h.front) ≡ d → Closes (ways_acts z (acted_of w.reached)) (owed_acts z n (acted_of w.reached)) d (tokens w.beyond) → Closes (ways_acts z (acted_of w.reached)) (owed_acts z n (acted_of w.reached)) d (tokens (drop k w.passed) ++ tokens w.beyond)
    by_done true e c = quiet-between _ _ true (tokens (drop k w.passed)) (tokens w.beyond) (tokens-drop Quiet k w.passed (subst (λ l. AllByRecursion Quiet (tokens l)) (sym h.passed) (still-quiet h.front (nothing-came (tokens h.front) o passed e).1))) c
    by_done false e c = harmless-between _ _ false (tokens (drop k w.passed)) (tokens w.beyond) harmless c

-- ---- the break

-- how the rest closes after a break at a node of this sort, if it closed so before
abbrev pub BreakCloses : Ways → ℕ → Bool → List PlainNode → Sort → Type 0
BreakCloses z m d rest light = Closes z m d (tokens rest)
BreakCloses z m d rest blank = Closes z m d (tokens rest)
BreakCloses z m d rest real = Closes z m d (tokens rest)
BreakCloses z m d rest silent = Closes z m d (tokens rest)
BreakCloses z m d rest pause = Closes z m d (tokens rest)
BreakCloses z m d rest hold = Closes z m false (tokens rest)
BreakCloses z m d rest serve = (j : ℕ) × (m ≡ suc j) × Closes z j false (tokens rest)
BreakCloses z m d rest clear = (m ≡ 0) × Closes z 0 true (tokens rest)
BreakCloses z m d rest odd = Unit {0}

pen-closes : (ns : List PlainNode) (l : ℕ) (z : Ways) (m : ℕ) (d : Bool) (p : ℤ) → Closes z m d (sort_token (pen_sort p) ∷ tokens ns) → BreakCloses z m d (record { line = l; kind = plain (pen inf_penalty) } ∷ ns) (pen_sort p)
pen-closes ns l z m d p = pen-sorts (λ x. Closes z m d (sort_token x ∷ tokens ns) → BreakCloses z m d (record { line = l; kind = plain (pen inf_penalty) } ∷ ns) x) (λ c. c) (λ c. c) (λ c. c) (at_serve m d) (at_clear m d) (λ c. tt) p
  where
    at_serve : (m : ℕ) (d : Bool) → Closes z m d (serving ∷ tokens ns) → BreakCloses z m d (record { line = l; kind = plain (pen inf_penalty) } ∷ ns) serve
    at_serve zero d c = absurd c
    at_serve (suc j) d c = (j, refl, c)

    at_clear : (m : ℕ) (d : Bool) → Closes z m d (clearing ∷ tokens ns) → BreakCloses z m d (record { line = l; kind = plain (pen inf_penalty) } ∷ ns) clear
    at_clear zero d c = (refl, c)
    at_clear (suc j) d c = absurd c

node-closes : (ns : List PlainNode) (l : ℕ) (k : PlainKind) (z : Ways) (m : ℕ) (d : Bool) → ActFree k → Closes z m d (kind_token k ∷ tokens ns) → BreakCloses z m d (with_spent_break (record { line = l; kind = k } ∷ ns)) (pen_sort (penalty_at (record { line = l; kind = k } ∷ ns)))
node-closes ns l (plain (pen p)) z m d f c = pen-closes ns l z m d p c
node-closes ns l (act a) z m d f c = absurd f
node-closes ns l k z m d f c = c

pub break-closes : (ns : List PlainNode) (z : Ways) (m : ℕ) (d : Bool) → FirstFree ns → Closes z m d (tokens ns) → BreakCloses z m d (with_spent_break ns) (pen_sort (penalty_at ns))
break-closes [] z m d f c = c
break-closes (n ∷ ns) z m d f c = node-closes ns n.line n.kind z m d f c
