-- The file of a run of a valid galley lists the pages of the run.
use Rattle.std.proofs.Common.{◌≡◌, refl, sym, subst, ℕ, ℤ, pos, ◌+ℤ◌, ◌≤◌, ◌<◌, true, List, [], ◌∷◌, ◌++◌, map, length, Option, Some, None, Ok, All, FitsSigned, arith}
use Rattle.std.specs.Int.{w32}
use Rattle.std.specs.List.{AllByRecursion}
use Rattle.std.proofs.lemmas.List.Elements.{All-from_recursion}
use Rattle.tb_break.proofs.EachLemmas.{all-join}
use Rattle.tb_node.specs.PlainNodes.{PlainKind, plain, ins, act, PlainNode, node_shape}
use Rattle.tb_galley.specs.declared.Galley.{Galley}
use Rattle.tb_galley.specs.Valid.{IsValid}
use Rattle.tb_pack.specs.declared.Set.{Set}
use Rattle.tb_pack.specs.Pack.{top_after}
use Rattle.tb_report.specs.Lines.{unset}
use Rattle.tb_column.specs.Column.{PlainColumn}
use Rattle.tb_sheet.specs.Sheet.{PlainSheet, one, wide, two, warned, shipped}
use Rattle.tb_dvi.specs.Placement.{Placement, Spot, kind_spot, spot_placed, placed_after, sheet_placed}
use Rattle.tb_dvi.specs.File.{IsWritable, IsWritablePage, file_bytes}
use Rattle.tb_dvi.specs.Progress.{bytes_by}
use Rattle.tb_dvi.specs.Machine.{listed}
use Rattle.tb_dvi.specs.Listing.{pages_items}
use Rattle.tb_dvi.proofs.FileLaw.{lists_its_pages}
use Rattle.tb_items.specs.RunEvents.{RunEvent, offered, sent}
use Rattle.tb_steps.specs.Run.{End, done, run_of}
use Rattle.tb_laws.specs.Laws.{EndsDone, FilesListTheirPages}
use Rattle.tb_laws.specs.DviFiles.{is_done, galley_file}
use Rattle.tb_laws.specs.DviPages.{event_pages, run_pages}
use Rattle.tb_laws.proofs.DviFiles.WritableNodes.{WritableSpot, WritableKind, WritableNodes, WritableSheet}
use Rattle.tb_laws.proofs.DviFiles.WritableRuns.{WritableEvents, run-writable}

-- ---- the placements of a page

spot-of : (k : PlainKind) → WritableKind k → WritableSpot (kind_spot k)
spot-of (plain m) h = h
spot-of (ins i) h = tt
spot-of (act a) h = tt

spot-writable : (h top : ℤ) (o : Option Spot) → FitsSigned w32 h → WritableSpot o → AllByRecursion IsWritable (spot_placed h top o)
spot-writable h top None fits w = tt
spot-writable h top (Some s) fits w = (record { right = fits; label = w.0; rule = w.1 }, tt)

rest-writable : (h at : ℤ) (s : Set) (before ns : List PlainNode) → FitsSigned w32 h → WritableNodes ns → AllByRecursion IsWritable (placed_after h at s before ns)
rest-writable h at s before [] fits w = tt
rest-writable h at s before (n ∷ ns) fits w =
    all-join IsWritable (spot_placed h (at +ℤ top_after s (map node_shape before)) (kind_spot n.kind)) (placed_after h at s (before ++ n ∷ []) ns)
    (spot-writable h (at +ℤ top_after s (map node_shape before)) (kind_spot n.kind) fits (spot-of n.kind w.0)) (rest-writable h at s (before ++ n ∷ []) ns fits w.1)

first-column : FitsSigned w32 (pos 0)
first-column = record { sfits = omega arith }

second-column : FitsSigned w32 (pos 19660800)
second-column = record { sfits = omega arith }

column-writable : (h at : ℤ) (c : PlainColumn) (rest : List Placement) → FitsSigned w32 h → WritableNodes c.nodes → AllByRecursion IsWritable rest → AllByRecursion IsWritable (placed_after h at c.set [] c.nodes ++ rest)
column-writable h at c rest fits w r = all-join IsWritable (placed_after h at c.set [] c.nodes) rest (rest-writable h at c.set [] c.nodes fits w) r

sheet-writable : (sheet : PlainSheet) → WritableSheet sheet → AllByRecursion IsWritable (sheet_placed sheet)
sheet-writable (one c) w = column-writable (pos 0) (pos 0) c [] first-column w tt
sheet-writable (wide c) w = column-writable (pos 0) (pos 0) c [] first-column w tt
sheet-writable (two tops at left right) w =
    all-join IsWritable (placed_after (pos 0) (pos 0) unset [] tops) _ (rest-writable (pos 0) (pos 0) unset [] tops first-column w.0)
    (column-writable (pos 0) at left _ first-column w.1 (column-writable (pos 19660800) at right [] second-column w.2 tt))

-- ---- the pages of a run

number-small : (n : ℕ) → n ≤ 2000000 → n < 2147483648
number-small n e = omega (arith, e)

all-pages : (es : List RunEvent) → WritableEvents es → AllByRecursion IsWritablePage (event_pages es)
all-pages [] w = tt
all-pages (offered t ∷ es) w = all-pages es w.1
all-pages (sent (warned x) ∷ es) w = all-pages es w.1
all-pages (sent (shipped number sheet) ∷ es) w =
    (record { number = number-small number w.0.0; placed = All-from_recursion IsWritable (sheet_placed sheet) (sheet-writable sheet w.0.1) }, all-pages es w.1)

-- each page that a run of a valid galley ships has bytes
pub pages-writable : (g : Galley) → IsValid g → All IsWritablePage (run_pages (run_of g))
pages-writable g v = All-from_recursion IsWritablePage (run_pages (run_of g)) (all-pages (run_of g).events (run-writable g v))

-- ---- the law

done-is : (e : End) → EndsDone e → is_done e ≡ true
done-is (done left) h = refl
done-is e h = absurd h

pub files-list : FilesListTheirPages
files-list g v ended near size =
    let height = g.params.textheight in
    let ps = run_pages (run_of g) in
    let same : galley_file g ≡ file_bytes height ps = λ i. bytes_by (near i) height ps (done-is (run_of g).end ended i) in
    subst (λ file. listed file ≡ Ok (pages_items ps)) (sym same) (lists_its_pages height ps (pages-writable g v) near (subst (λ file. length file ≤ 8388608) same size))
