-- Between one clear and the next is a mark, note or whatsit, which lasts at the top of a page.
use Rattle.std.proofs.Common.{◌≡◌, refl, subst, ℕ, ℤ, Bool, true, false, ◌+◌, List, [], ◌∷◌, ◌++◌, arith}
use Rattle.std.specs.Prelude.{if◌then◌else◌}
use Rattle.std.proofs.lemmas.List.{append-nil}
use Rattle.tb_node.specs.PlainNodes.{hbox, rule, skip, kerned, pen, mark, note, whatsit, PlainKind, plain, ins, act, PlainNode, without_acts}
use Rattle.tb_break.specs.PageTop.{pruned_nodes}
use Rattle.tb_builder.specs.FiredPages.{with_spent_break, penalty_at}
use Rattle.tb_output.specs.Output.{is_int}
use Rattle.tb_sheet.specs.Asked.{clear_penalty}
use Rattle.tb_laws.proofs.DeadCycles.WaitCosts.{kind_cost, wait_cost}
use Rattle.tb_laws.proofs.DeadCycles.EndedLemmas.{EndsAt, ends-looser, free-kind}

-- whether such a node was seen since the last clear, after this node
abbrev pub seen_lasting : Bool → PlainKind → Bool
seen_lasting b (plain (hbox w h d)) = b
seen_lasting b (plain (rule name h d)) = b
seen_lasting b (plain (skip g)) = b
seen_lasting b (plain (kerned w)) = b
seen_lasting b (plain (pen p)) = if is_int p clear_penalty then false else b
seen_lasting b (plain (mark name)) = true
seen_lasting b (plain (note name)) = true
seen_lasting b (plain whatsit) = true
seen_lasting b (ins i) = b
seen_lasting b (act a) = b

-- each clear of the list has such a node before it and after the clear before; the flag says whether one comes before the list
abbrev pub Spaced : Bool → List PlainNode → Type 0
Spaced b [] = Unit {0}
Spaced b (n ∷ ns) = EndsAt b n.kind × Spaced (seen_lasting b n.kind) ns

-- ---- what is spaced with less before it

abbrev Under : Bool → Bool → Type 0
Under b c = b ≡ true → c ≡ true

ends-under : (b c : Bool) (k : PlainKind) → Under b c → EndsAt b k → EndsAt c k
ends-under b c (plain (pen p)) u e = λ h. u (e h)
ends-under b c k u e = tt

pen-under : (t b c : Bool) → Under b c → Under (if t then false else b) (if t then false else c)
pen-under true b c u h = h
pen-under false b c u h = u h

seen-under : (b c : Bool) (k : PlainKind) → Under b c → Under (seen_lasting b k) (seen_lasting c k)
seen-under b c (plain (pen p)) u = pen-under (is_int p clear_penalty) b c u
seen-under b c (plain (mark name)) u = λ h. refl
seen-under b c (plain (note name)) u = λ h. refl
seen-under b c (plain whatsit) u = λ h. refl
seen-under b c k u = u

spaced-under : (b c : Bool) (ns : List PlainNode) → Under b c → Spaced b ns → Spaced c ns
spaced-under b c [] u s = tt
spaced-under b c (n ∷ ns) u s = (ends-under b c n.kind u s.0, spaced-under (seen_lasting b n.kind) (seen_lasting c n.kind) ns (seen-under b c n.kind u) s.1)

none-under : (c : Bool) → Under false c
none-under c h = let no : ⊥ = grind (arith, h) in absurd no

pub spaced-any : (c : Bool) (ns : List PlainNode) → Spaced false ns → Spaced c ns
spaced-any c ns s = spaced-under false c ns (none-under c) s

pub spaced-true : (b : Bool) (ns : List PlainNode) → Spaced b ns → Spaced true ns
spaced-true b ns s = spaced-under b true ns (λ h. refl) s

pub spaced-both : (b : Bool) (xs ys : List PlainNode) → Spaced b xs → Spaced false ys → Spaced b (xs ++ ys)
spaced-both b [] ys s g = spaced-any b ys g
spaced-both b (x ∷ xs) ys s g = (s.0, spaced-both (seen_lasting b x.kind) xs ys s.1 g)

-- ---- the top of a page

pen-less : (t b : Bool) → Under (if t then false else b) b
pen-less true b h = let no : ⊥ = grind (arith, h) in absurd no
pen-less false b h = h

pruned-kind : (t : ℤ) (ns : List PlainNode) → ((b : Bool) → Spaced b ns → Spaced b (pruned_nodes t ns)) → (b : Bool) (l : ℕ) (k : PlainKind) → EndsAt b k → Spaced (seen_lasting b k) ns → Spaced b (pruned_nodes t (record { line = l; kind = k } ∷ ns))
pruned-kind t ns h b l (plain (hbox w x d)) e g = (tt, (tt, g))
pruned-kind t ns h b l (plain (rule name x d)) e g = (tt, (tt, g))
pruned-kind t ns h b l (plain (skip y)) e g = h b g
pruned-kind t ns h b l (plain (kerned w)) e g = h b g
pruned-kind t ns h b l (plain (pen p)) e g = spaced-under (if is_int p clear_penalty then false else b) b (pruned_nodes t ns) (pen-less (is_int p clear_penalty) b) (h (if is_int p clear_penalty then false else b) g)
pruned-kind t ns h b l (ins i) e g = (tt, h b g)
pruned-kind t ns h b l (act a) e g = (tt, h b g)
pruned-kind t ns h b l k e g = (tt, h true g)

pub spaced-pruned : (t : ℤ) (b : Bool) (ns : List PlainNode) → Spaced b ns → Spaced b (pruned_nodes t ns)
spaced-pruned t b [] s = tt
spaced-pruned t b (n ∷ ns) s = pruned-kind t ns (λ c g. spaced-pruned t c ns g) b n.line n.kind s.0 s.1

-- ---- what comes after a front

pub spaced-behind : (b : Bool) (xs ys : List PlainNode) → Spaced b (xs ++ ys) → Spaced true ys
spaced-behind b [] ys s = spaced-true b ys s
spaced-behind b (x ∷ xs) ys s = spaced-behind (seen_lasting b x.kind) xs ys s.1

-- the break node is no clear any more; after a clear the flag is down
spent-kind : (l : ℕ) (k : PlainKind) (b : Bool) (ns : List PlainNode) → Spaced (seen_lasting b k) ns → Spaced true (with_spent_break (record { line = l; kind = k } ∷ ns))
spent-kind l (plain (pen p)) b ns e = (λ h. cc, spaced-true (if is_int p clear_penalty then false else b) ns e)
spent-kind l (plain (mark name)) b ns e = (tt, e)
spent-kind l (plain (note name)) b ns e = (tt, e)
spent-kind l (plain whatsit) b ns e = (tt, e)
spent-kind l k b ns e = (tt, spaced-true b ns e)

pub spaced-spent : (b : Bool) (ns : List PlainNode) → Spaced b ns → Spaced true (with_spent_break ns)
spaced-spent b [] s = tt
spaced-spent b (n ∷ ns) s = spent-kind n.line n.kind b ns s.1

clear-pen : (t b : Bool) (l : ℕ) (ns : List PlainNode) → t ≡ true → Spaced (if t then false else b) ns → Spaced false ns
clear-pen true b l ns e s = s
clear-pen false b l ns e s = let no : ⊥ = grind (arith, e) in absurd no

clear-kind : (l : ℕ) (k : PlainKind) (b : Bool) (ns : List PlainNode) → is_int (penalty_at (record { line = l; kind = k } ∷ ns)) clear_penalty ≡ true → Spaced (seen_lasting b k) ns → Spaced false (with_spent_break (record { line = l; kind = k } ∷ ns))
clear-kind l (plain (pen p)) b ns c e = (λ h. cc, clear-pen (is_int p clear_penalty) b l ns c e)
clear-kind l k b ns c e = let no : false ≡ true = c in cc

pub spaced-clear : (b : Bool) (ns : List PlainNode) → is_int (penalty_at ns) clear_penalty ≡ true → Spaced b ns → Spaced false (with_spent_break ns)
spaced-clear b [] c s = tt
spaced-clear b (n ∷ ns) c s = clear-kind n.line n.kind b ns c s.1

-- ---- a front that costs nothing

free-seen : (b : Bool) (k : PlainKind) → kind_cost k ≡ 0 → Under b (seen_lasting b k)
free-seen b (plain (hbox w h d)) e = λ h. h
free-seen b (plain (rule name h d)) e = λ h. h
free-seen b (plain (pen p)) e = by_clear (is_int p clear_penalty) (free-kind (plain (pen p)) e)
  where
    by_clear : (t : Bool) → (t ≡ true → false ≡ true) → Under b (if t then false else b)
    by_clear true f h = f refl
    by_clear false f h = h
free-seen b (plain (mark name)) e = λ h. refl
free-seen b (plain (note name)) e = λ h. refl
free-seen b (plain whatsit) e = λ h. refl
free-seen b k e = λ h. h

pub free-spaced : (b : Bool) (xs ys : List PlainNode) → wait_cost xs ≡ 0 → Spaced b ys → Spaced b (xs ++ ys)
free-spaced b [] ys e s = s
free-spaced b (x ∷ xs) ys e s =
    let k : kind_cost x.kind ≡ 0 = first (kind_cost x.kind) (wait_cost xs) e in
    (ends-looser b x.kind (free-kind x.kind k), free-spaced (seen_lasting b x.kind) xs ys (rest (kind_cost x.kind) (wait_cost xs) e) (spaced-under b (seen_lasting b x.kind) ys (free-seen b x.kind k) s))
  where
    first : (x y : ℕ) → x + y ≡ 0 → x ≡ 0
    first x y h = omega arith

    rest : (x y : ℕ) → x + y ≡ 0 → y ≡ 0
    rest x y h = omega arith

pub free-alone : (b : Bool) (xs : List PlainNode) → wait_cost xs ≡ 0 → Spaced b xs
free-alone b xs e = subst (Spaced b) (append-nil xs) (free-spaced b xs [] e tt)

-- ---- without its acts a front leaves the same after it

acts-kind : (l : ℕ) (k : PlainKind) (b : Bool) (ns ys : List PlainNode) → ((c : Bool) → Spaced c (ns ++ ys) → Spaced c (without_acts ns ++ ys)) → EndsAt b k → Spaced (seen_lasting b k) (ns ++ ys) → Spaced b (without_acts (record { line = l; kind = k } ∷ ns) ++ ys)
acts-kind l (plain x) b ns ys h e g = (e, h (seen_lasting b (plain x)) g)
acts-kind l (ins i) b ns ys h e g = (tt, h b g)
acts-kind l (act a) b ns ys h e g = h b g

pub spaced-acts : (b : Bool) (ns ys : List PlainNode) → Spaced b (ns ++ ys) → Spaced b (without_acts ns ++ ys)
spaced-acts b [] ys s = s
spaced-acts b (n ∷ ns) ys s = acts-kind n.line n.kind b ns ys (λ c g. spaced-acts c ns ys g) s.0 s.1
