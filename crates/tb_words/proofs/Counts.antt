-- A parse that succeeds finds a count in its range.
use Rattle.std.proofs.Common.{◌≡◌, ◌∙◌, ◌<◌, ◌≤◌, ap, refl, sym, subst, inl, inr, arith, ℕ, zero, suc, pos, Bool, true, false, not, codes, List, [], ◌∷◌, map, length, is_some, Option, Some, None}
use Rattle.std.specs.Prelude.{find, option_map, slice_get}
use Rattle.std.specs.List.{All, slice_index_or}
use Rattle.std.specs.Str.{bytes_eq}
use Rattle.std.specs.Borrow.{Bor}
use Rattle.std.proofs.lemmas.Slice.Eq.{bytes_eq-Decides}
use Rattle.std.proofs.lemmas.List.Elements.{All-get_or}
use Rattle.clap.specs.Texts.{items_of}
use Rattle.clap.specs.Walk.{texts}
use Rattle.clap.specs.Facts.{args_of, groups_of, least_values, parser_of, parser_of_value, Entry, EntryPasses, HasIn, MayBeEmpty, PassesArg, WantsDefault}
use Rattle.clap.specs.Built.{IsAuto, IsParsedFrom, NamesNoGroup, SameRules}
use Rattle.clap.specs.Words.{App, app_of, found_of, matched_of, one_text, reading_of, rule_of, without_minus, Accepts, Rule}
use Rattle.clap.specs.declared.builder.action.ArgAction.TheVariants.{Set, Count}
use Rattle.clap.specs.declared.builder.arg.Arg.{Arg}
use Rattle.clap.specs.declared.builder.command.Command.{Command}
use Rattle.clap.specs.declared.builder.command.Command.TheViews.{out-Command}
use Rattle.clap.specs.declared.builder.value_parser.Reading.TheVariants.{WithoutMinus}
use Rattle.clap.specs.declared.builder.value_parser.ValueParser.{ValueParser}
use Rattle.clap.specs.declared.builder.value_parser.ValueParser.TheVariants.{Signed}
use Rattle.clap.specs.declared.parser.matches.ArgMatches.{ArgMatches}
use Rattle.clap.specs.declared.parser.matches.MatchedArg.{MatchedArg}
use Rattle.clap.proofs.SimpleLemmas.{is_nil, is_false}
use Rattle.clap.proofs.WalkLemmas.{both}
use Rattle.clap.proofs.CallerLemmas.{default_present, entry_by_id, same_rules_by_id}
use Rattle.tb_words.specs.Words.{command, count_option, mode_option, HasCount}

abbrev id : List ℕ
id = codes "count"

abbrev parser : ValueParser
parser = Signed (pos 1) (pos 40000)

-- ---- the argument

-- two values, by what a function makes of them
record HasBoth {X R : Type 0} (f : X → R) (a b : R) (xs : List X) : Type 0 where
  first : X
  second : X
  list : xs ≡ first ∷ second ∷ []
  first_is : f first ≡ a
  second_is : f second ≡ b

both_of : {X R : Type 0} (f : X → R) (a b : R) (xs : List X) → map f xs ≡ a ∷ b ∷ [] → HasBoth f a b xs
both_of f a b [] e = cc
both_of f a b (x ∷ []) e = cc
both_of f a b (x ∷ y ∷ []) e = record { first = x; second = y; list = refl; first_is = cc; second_is = cc }
both_of f a b (x ∷ y ∷ z ∷ zs) e = cc

texts_length : (xs : List (Bor (List ℕ))) → length (texts xs) ≡ length xs
texts_length [] = refl
texts_length (x ∷ xs) = ap suc (texts_length xs)

some_default : (y : Arg) (r : Rule) → rule_of y ≡ r → length r.defaults ≡ 1 → 0 < length (items_of y.default_vals)
some_default y r is one =
    let e = texts_length (items_of y.default_vals) in
    let d : length (texts (items_of y.default_vals)) ≡ length r.defaults = ap (λ (q : Rule). length q.defaults) is in
    omega arith

-- what an argument with the rule of `--count` has
record IsCountArg (y : Arg) : Type 0 where
  name : y.id.now ≡ id
  set : y.action ≡ Some Set
  reads : y.value_parser ≡ Some parser
  least : 1 ≤ least_values y
  whole : y.val_delim ≡ None
  default : WantsDefault y

off_option : {X : Type 0} (o : Option X) → not (is_some o) ≡ true → o ≡ None
off_option None e = refl
off_option (Some x) e = cc

one_is : 1 ≤ 1
one_is = omega arith

count_arg : (y : Arg) → rule_of y ≡ count_option → IsCountArg y
count_arg y is =
    let simple = ap (λ (r : Rule). r.is_simple) is in
    let a = both _ _ simple in
    let b = both _ _ a.1 in
    let c = both _ _ b.1 in
    let d = both _ _ c.1 in
    let range : y.num_vals ≡ None = ap (λ (r : Rule). r.range) is in
    record {
      name = ap (λ (r : Rule). r.id) is;
      set = ap (λ (r : Rule). r.action) is;
      reads = ap (λ (r : Rule). r.parser) is;
      least = rw range one_is;
      whole = off_option _ d.0;
      default = (is_nil _ b.0, some_default y count_option is refl);
    }

-- ---- what the parse found

abbrev FindsAt : List Entry → List ℕ → Type 0
FindsAt xs i = (a : MatchedArg) × (option_map (λ (e : Entry). e.1) (find (λ e. bytes_eq e.0.now i) xs) ≡ Some a)

-- an id that is there has an entry
entry_of : (xs : List Entry) (i : List ℕ) → HasIn xs i → FindsAt xs i
entry_of [] i h = absurd (omega (arith, h.1))
entry_of (x ∷ xs) i h = by_test (bytes_eq x.0.now i) refl (λ k. entry_of xs i k) h
  where
    by_test : (t : Bool) → bytes_eq x.0.now i ≡ t → (HasIn xs i → FindsAt xs i) → HasIn (x ∷ xs) i → FindsAt (x ∷ xs) i
    by_test true e later k = (x.1, rw e refl)
    by_test false e later (zero, lt, at) = let no : true ≡ false = sym (at x) ∙ e in cc
    by_test false e later (suc n, lt, at) = let r = later (n, omega arith, at) in (r.0, rw e r.1)

-- the first of a list that is not empty
record HasFirst (P : Bor (List ℕ) → Type 0) (xs : List (Bor (List ℕ))) : Type 0 where
  value : Bor (List ℕ)
  is : slice_get xs 0 ≡ Some value
  holds : P value

first_of_some : (P : Bor (List ℕ) → Type 0) (xs : List (Bor (List ℕ))) → 0 < length xs → All P xs → HasFirst P xs
first_of_some P [] lt all = absurd (omega arith)
first_of_some P (x ∷ xs) lt all = record { value = x; is = refl; holds = All-get_or P (x ∷ xs) 0 x (omega arith) all }

simple_groups : (y : Arg) (r : Rule) → rule_of y ≡ r → r.is_simple ≡ true → y.groups.items ≡ []
simple_groups y r is simple =
    let a = both _ _ (ap (λ (q : Rule). q.is_simple) is ∙ simple) in
    let b = both _ _ a.1 in
    let c = both _ _ b.1 in
    is_nil _ c.0

all_of_two : {X : Type 0} (P : X → Type 0) (x y : X) → P x → P y → All P (x ∷ y ∷ [])
all_of_two P x y a b zero d lt = a
all_of_two P x y a b (suc zero) d lt = b
all_of_two P x y a b (suc (suc k)) d lt = absurd (omega arith)

module _ (c : Command) (m : ArgMatches) (p : IsParsedFrom c m) (x y : Arg) (list : args_of c ≡ x ∷ y ∷ []) (first : x.id.now ≡ codes "mode") (count : IsCountArg y) where
  at_one : slice_index_or (args_of c) 1 y ≡ y
  at_one = ap (λ (l : List Arg). slice_index_or l 1 y) list

  few : 1 < length (args_of c)
  few = subst (λ (l : List Arg). 1 < length l) (sym list) (omega arith)

  name_at : (slice_index_or (args_of c) 1 y).id.now ≡ id
  name_at = ap (λ (a : Arg). a.id.now) at_one ∙ count.name

  unique_of : (j : ℕ) (e : Arg) → j < length (x ∷ y ∷ []) → bytes_eq (slice_index_or (x ∷ y ∷ []) j e).id.now y.id.now ≡ true → j ≡ 1
  unique_of zero e lt same = let no : false ≡ true = rw (first, count.name) at same in cc
  unique_of (suc zero) e lt same = refl
  unique_of (suc (suc j)) e lt same = absurd (omega arith)

  unique : (j : ℕ) (e : Arg) → j < length (args_of c) → bytes_eq (slice_index_or (args_of c) j e).id.now (slice_index_or (args_of c) 1 y).id.now ≡ true → j ≡ 1
  unique = subst (λ (l : List Arg). (j : ℕ) (e : Arg) → j < length l → bytes_eq (slice_index_or l j e).id.now (slice_index_or l 1 y).id.now ≡ true → j ≡ 1) (sym list) unique_of

  not_auto : IsAuto (slice_index_or (args_of c) 1 y) → ⊥
  not_auto auto = elim auto [
    | inl help ↦ let no : id ≡ codes "help" = sym name_at ∙ help in cc
    | inr version ↦ let no : id ≡ codes "version" = sym name_at ∙ version in cc
  ]

  -- the argument of the built command with this name
  rules_at : (j : ℕ) (z : Arg) → j < length (args_of p.built) → slice_index_or (args_of p.built) j z ≡ z → bytes_eq z.id.now id ≡ true → SameRules y z
  rules_at j z lt at same =
      subst (λ (a : Arg). SameRules a z) at_one
      (same_rules_by_id c m p 1 y few unique not_auto j z lt at (subst (λ (t : List ℕ). bytes_eq z.id.now t ≡ true) (sym name_at) same))

  -- the entry of the count is no group's
  no_group : (e : Entry) → groups_of p.built ≡ [] → e.0.now ≡ id → EntryPasses p.built e → e.1.is_group ≡ true → ⊥
  no_group e groups key pass group = elim (pass.3 group) [
    | inl empty ↦ let no : id ≡ [] = sym key ∙ empty in cc
    | inr some ↦ let no : 0 < 0 = rw groups at some in omega arith
  ]

  -- the argument of something that is said of one with the entry's name
  rules_of : (e : Entry) → e.0.now ≡ id → (z : Arg) (j : ℕ) → j < length (args_of p.built) → slice_index_or (args_of p.built) j z ≡ z → bytes_eq z.id.now e.0.now ≡ true → SameRules y z
  rules_of e key z j lt at same = rules_at j z lt at (subst (λ (t : List ℕ). bytes_eq z.id.now t ≡ true) key same)

  parser_is : (z : Arg) → SameRules y z → parser_of z ≡ parser
  parser_is z s = ap parser_of_value (s.parser parser count.reads)

  -- it has a value
  filled : (e : Entry) → groups_of p.built ≡ [] → e.0.now ≡ id → EntryPasses p.built e → 0 < length e.1.vals.items
  filled e groups key pass = elim pass.1 [
    | inl group ↦ absurd (no_group e groups key pass group.0)
    | inr (inl some) ↦ some
    | inr (inr (inl counts)) ↦
        let any = counts.1 in
        let set = (rules_of e key any.1 any.0 any.2 any.3 any.4.0).action Set count.set in
        let no : Set ≡ Count = rw set at any.4.1 in
        cc
    | inr (inr (inr none)) ↦ absurd (never none.1 (rules_of e key none.1 none.0 none.2 none.3 none.4.0) none.4.1)
  ]
    where
      never : (z : Arg) → SameRules y z → MayBeEmpty z → ⊥
      never z s (inl least) = let one = s.least count.set count.least in omega arith
      never z s (inr delimited) = let no : false ≡ true = rw (s.val_delim, count.whole) at delimited in cc

  passing : (e : Entry) → groups_of p.built ≡ [] → e.0.now ≡ id → EntryPasses p.built e → All (λ v. PassesArg p.built e.0.now v.now) e.1.vals.items
  passing e groups key pass = elim pass.0 [
    | inl group ↦ absurd (no_group e groups key pass group)
    | inr all ↦ all
  ]

  read_without : (e : Entry) → groups_of p.built ≡ [] → e.0.now ≡ id → EntryPasses p.built e → e.1.reading ≡ WithoutMinus
  read_without e groups key pass = elim pass.4 [
    | inl group ↦ absurd (no_group e groups key pass group)
    | inr any ↦ sym any.4.1 ∙ ap reading_of (parser_is any.1 (rules_of e key any.1 any.0 any.2 any.3 any.4.0))
  ]

  text_of : (a : MatchedArg) (v : Bor (List ℕ)) → matched_of (found_of m) id ≡ Some a → a.reading ≡ WithoutMinus → slice_get a.vals.items 0 ≡ Some v → one_text (found_of m) id ≡ Some (without_minus v.now)
  text_of a v at reads is = rw (at, reads, is) refl

  read_in : (a : MatchedArg) (e : Entry) → groups_of p.built ≡ [] → matched_of (found_of m) id ≡ Some a → e.1 ≡ a → e.0.now ≡ id → EntryPasses p.built e → HasCount (found_of m)
  read_in a e groups at same key pass =
      let head = first_of_some (λ (v : Bor (List ℕ)). PassesArg p.built e.0.now v.now) e.1.vals.items (filled e groups key pass) (passing e groups key pass) in
      let any = head.holds in
      record {
        text = head.value.now;
        found = text_of e.1 head.value (at ∙ ap Some (sym same)) (read_without e groups key pass) head.is;
        within = subst (λ (q : ValueParser). Accepts any.1.ignore_case q head.value.now) (parser_is any.1 (rules_of e key any.1 any.0 any.2 any.3 any.4.0)) any.4.1;
      }

  count_in_matches : groups_of c ≡ [] → x.groups.items ≡ [] → y.groups.items ≡ [] → (out-Command c).has_globals ≡ false → HasCount (found_of m)
  count_in_matches groups none also local =
      let parsed = p.parsed (p.from.globals ∙ local) in
      let free : NamesNoGroup c = subst (All (λ a. a.groups.items ≡ [])) (sym list) (all_of_two (λ (a : Arg). a.groups.items ≡ []) x y none also) in
      let no_groups : groups_of p.built ≡ [] = (p.from.same_groups free).1 ∙ groups in
      let has : HasIn (found_of m).entries.items id = subst (HasIn (found_of m).entries.items) name_at (default_present c m p local 1 y few (subst WantsDefault (sym at_one) count.default)) in
      let entry = entry_of (found_of m).entries.items id has in
      let got = entry_by_id (EntryPasses p.built) (found_of m).entries.items id entry.0 parsed.values entry.1 in
      read_in entry.0 got.0 no_groups entry.1 got.1 ((bytes_eq-Decides got.0.0.now id).0 got.2) got.3

pub count_found : (c : Command) (m : ArgMatches) → app_of c ≡ command → IsParsedFrom c m → HasCount (found_of m)
count_found c m is p =
    let both_args = both_of rule_of mode_option count_option (args_of c) (ap (λ (a : App). a.top.rules) is) in
    let plain = both _ _ (ap (λ (a : App). a.top.is_plain) is) in
    let external = both _ _ plain.1 in
    let globals = both _ _ external.1 in
    count_in_matches c m p both_args.first both_args.second both_args.list (ap (λ (r : Rule). r.id) both_args.first_is) (count_arg both_args.second both_args.second_is) (is_nil _ plain.0)
    (simple_groups both_args.first mode_option both_args.first_is refl) (simple_groups both_args.second count_option both_args.second_is refl) (is_false _ globals.0)
