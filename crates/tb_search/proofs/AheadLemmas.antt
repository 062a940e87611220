-- The items that a state of the search has ahead in code, one after another.
use Rattle.std.proofs.Common.{◌≡◌, refl, sym, ap, subst, ◌∙◌, ℕ, zero, suc, ◌+◌, ◌-◌, ◌<◌, ◌≤◌, Bool, true, false, true≢false, List, [], ◌∷◌, map, length, get_or, drop, Option, Some, None, arith}
use Rattle.std.proofs.lemmas.List.{drop_all, get_or-map}
use Rattle.std.proofs.Math.Seq.{drop-cons}
use Rattle.std.specs.Borrow.{Bor}
use Rattle.tb_param.specs.declared.Params.{Params}
use Rattle.tb_galley.specs.declared.Item.{Item}
use Rattle.tb_galley.specs.declared.Galley.{Galley}
use Rattle.tb_galley.specs.GalleyNodes.{two_after, params_after}
use Rattle.tb_items.specs.declared.items_left.ItemsLeft.{ItemsLeft}
use Rattle.tb_items.specs.ItemsLeft.{first_nodes, IsPastNext}
use Rattle.tb_plans.specs.declared.walk.Before.{Before}
use Rattle.tb_plans.specs.declared.walk.Before.TheVariants as befores
use Rattle.tb_plans.specs.Places.{before_after}
use Rattle.tb_best.specs.ItemsAhead.{Ahead, item_ahead, last_ahead, ahead_from, all_ahead, forced}
use Rattle.tb_search.specs.AheadInCode.{items_ahead, HasAhead}
use Rattle.tb_search.specs.Branches.{next_of, break_before, first_break, IsPast}

-- ---- how many there are, and their numbers

length-from : (p q : Params) (last : Ahead) (two : Bool) (b : Before) (k : ℕ) (ns : List Item) → length (ahead_from p q last two b k ns) ≡ suc (length ns)
length-from p q last two b k [] = refl
length-from p q last two b k (n ∷ ns) = ap suc (length-from p (params_after q n.kind) last (two_after two n.kind) (before_after p two b n.kind) (suc k) ns)

-- the items and the clear
pub all-counted : (g : Galley) → length (all_ahead g) ≡ suc (length g.items)
unfolding all_ahead
all-counted g = length-from g.params g.params (last_ahead g) false befores.Nothing 0 g.items

numbers-from : (p q : Params) (last : Ahead) (two : Bool) (b : Before) (k : ℕ) (ns : List Item) (j : ℕ) → last.number ≡ k + length ns → j ≤ length ns → (get_or (ahead_from p q last two b k ns) j last).number ≡ k + j
numbers-from p q last two b k [] zero e h = omega (arith, e)
numbers-from p q last two b k [] (suc j) e h = absurd (omega (arith, h))
numbers-from p q last two b k (n ∷ ns) zero e h = omega arith
numbers-from p q last two b k (n ∷ ns) (suc j) e h =
    numbers-from p (params_after q n.kind) last (two_after two n.kind) (before_after p two b n.kind) (suc k) ns j (omega (arith, e)) (omega (arith, h)) ∙ omega arith

-- each has its number
pub number-is : (g : Galley) (j : ℕ) → j < length (all_ahead g) → (get_or (all_ahead g) j (last_ahead g)).number ≡ j
unfolding all_ahead
number-is g j h = let n = all-counted g in numbers-from g.params g.params (last_ahead g) false befores.Nothing 0 g.items j (omega arith) (omega (arith, n)) ∙ omega arith

-- ---- so many of the last

-- none
pub none-ahead : (g : Galley) → items_ahead g 0 ≡ []
none-ahead g = drop_all (length (all_ahead g) - 0) (all_ahead g) (omega arith)

-- all
pub all-are-ahead : (g : Galley) → items_ahead g (length (all_ahead g)) ≡ all_ahead g
all-are-ahead g = let zero-left : length (all_ahead g) - length (all_ahead g) ≡ 0 = omega arith in ap (λ n. drop n (all_ahead g)) zero-left

-- the next of them, where so many are behind it
abbrev pub next_ahead : Galley → ℕ → Ahead
next_ahead g k = get_or (all_ahead g) (length (all_ahead g) - suc k) (last_ahead g)

pub next-is : (g : Galley) (k : ℕ) → suc k ≤ length (all_ahead g) → items_ahead g (suc k) ≡ next_ahead g k ∷ items_ahead g k
next-is g k h =
    let behind : suc (length (all_ahead g) - suc k) ≡ length (all_ahead g) - k = omega arith in
    drop-cons (all_ahead g) (length (all_ahead g) - suc k) (last_ahead g) (omega arith) ∙ ap (λ n. next_ahead g k ∷ drop n (all_ahead g)) behind

-- ---- in code

-- what is known of the next item in code: its nodes, the break before it, and what is ahead after it
pub record IsNextTaken (g : Galley) (c : Ahead) (cs : List Ahead) (o p : Option ItemsLeft) : Type 0 where
  pub nodes : next_of o ≡ c.nodes
  pub break : c.is_place ≡ true → break_before o ≡ forced c ∷ []
  pub after : HasAhead g p cs

module _ (g : Galley) (l : ItemsLeft) (b : Before) (m : ℕ) (galley : l.galley.now ≡ g) where
  -- the clear
  taken-clear : (c : Ahead) (cs : List Ahead) (p : Option ItemsLeft) → c ∷ cs ≡ last_ahead g ∷ [] → l.items.now ≡ [] → IsPastNext l p → IsNextTaken g c cs (Some l) p
  taken-clear c cs None e none past = record {
    nodes = (λ i. first_nodes (galley i) l.params l.two (none i)) ∙ ap (λ (d : Ahead). d.nodes) (sym same);
    break = λ h. absurd (true≢false (sym h ∙ ap (λ (d : Ahead). d.is_place) same));
    after = cc;
  }
    where
      same : c ≡ last_ahead g
      same = cc
  taken-clear c cs (Some r) e none past = absurd (let is = past.1.items in let no : [] ≡ past.0 ∷ r.items.now = sym none ∙ is in (cc))

  -- an item
  taken-item : (c : Ahead) (cs : List Ahead) (p : Option ItemsLeft) (n : Item) (ns : List Item) → c ∷ cs ≡ ahead_from g.params l.params (last_ahead g) l.two b m (n ∷ ns) → l.items.now ≡ n ∷ ns → IsPastNext l p → IsNextTaken g c cs (Some l) p
  taken-item c cs None n ns e is past = absurd (let no : [] ≡ n ∷ ns = sym past ∙ is in (cc))
  taken-item c cs (Some r) n ns e is past = record {
    nodes = (λ i. first_nodes (galley i) l.params l.two (is i)) ∙ ap (λ (d : Ahead). d.nodes) (sym same);
    break = λ h. ap first_break is ∙ ap (λ (d : Ahead). forced d ∷ []) (sym same);
    after = record {
      number = suc m;
      before = before_after g.params l.two b n.kind;
      galley = ap (λ (x : Bor Galley). x.now) past.1.galley ∙ galley;
      ahead = behind ∙ (λ i. ahead_from g.params (sym params-are i) (last_ahead g) (sym two-is i) (before_after g.params l.two b n.kind) (suc m) (sym items-are i));
    };
  }
    where
      same : c ≡ item_ahead g.params l.params l.two b m n ns
      same = cc

      behind : cs ≡ ahead_from g.params (params_after l.params n.kind) (last_ahead g) (two_after l.two n.kind) (before_after g.params l.two b n.kind) (suc m) ns
      behind = cc

      both : n ∷ ns ≡ past.0 ∷ r.items.now
      both = sym is ∙ past.1.items

      items-are : r.items.now ≡ ns
      items-are = cc

      kind-is : past.0 ≡ n
      kind-is = cc

      params-are : r.params ≡ params_after l.params n.kind
      params-are = past.1.params ∙ ap (λ (x : Item). params_after l.params x.kind) kind-is

      two-is : r.two ≡ two_after l.two n.kind
      two-is = past.1.two ∙ ap (λ (x : Item). two_after l.two x.kind) kind-is

-- the next item is what the code takes
taken : (g : Galley) (c : Ahead) (cs : List Ahead) (o p : Option ItemsLeft) → HasAhead g o (c ∷ cs) → IsPast o p → IsNextTaken g c cs o p
taken g c cs None p h past = absurd (cc)
taken g c cs (Some l) p h past = by l.items.now refl
  where
    by : (ns : List Item) → l.items.now ≡ ns → IsNextTaken g c cs (Some l) p
    by [] e = taken-clear g l h.before h.number h.galley c cs p (h.ahead ∙ ap (ahead_from g.params l.params (last_ahead g) l.two h.before h.number) e) e past
    by (n ∷ ns) e = taken-item g l h.before h.number h.galley c cs p n ns (h.ahead ∙ ap (ahead_from g.params l.params (last_ahead g) l.two h.before h.number) e) e past

-- of a state that has one item more than these ahead in code
pub next-taken : (g : Galley) (k : ℕ) (o p : Option ItemsLeft) → suc k ≤ length (all_ahead g) → HasAhead g o (items_ahead g (suc k)) → IsPast o p → IsNextTaken g (next_ahead g k) (items_ahead g k) o p
next-taken g k o p h ahead past = taken g (next_ahead g k) (items_ahead g k) o p (subst (HasAhead g o) (next-is g k h) ahead) past

-- where all items of a galley are ahead in code
pub begins-with-all : (g : Galley) (l : ItemsLeft) → l.galley.now ≡ g → l.params ≡ g.params → l.items.now ≡ g.items → l.two ≡ false → HasAhead g (Some l) (all_ahead g)
unfolding all_ahead
begins-with-all g l galley params items two = record {
  number = 0;
  before = befores.Nothing;
  galley = galley;
  ahead = λ i. ahead_from g.params (sym params i) (last_ahead g) (sym two i) befores.Nothing 0 (sym items i);
}

-- by the flags of all, whether a break may be put in before it
pub flag-of-next : (g : Galley) (k : ℕ) → suc k ≤ length (all_ahead g) → get_or (map (λ (c : Ahead). c.is_place) (all_ahead g)) (length (all_ahead g) - suc k) false ≡ (next_ahead g k).is_place
flag-of-next g k h = get_or-map (λ (c : Ahead). c.is_place) (all_ahead g) (length (all_ahead g) - suc k) (last_ahead g) false (omega arith)

-- its number
pub number-of-next : (g : Galley) (k : ℕ) → suc k ≤ length (all_ahead g) → (next_ahead g k).number ≡ length (all_ahead g) - suc k
number-of-next g k h = number-is g (length (all_ahead g) - suc k) (omega arith)
