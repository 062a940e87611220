use Rattle.std.proofs.Common.{◌≡◌, refl, sym, subst, ◌∙◌, ap, ◌∷◌, []}
use Rattle.std.specs.Prelude.{true, false}
use Rattle.tb_sheet.specs.declared.Sheet.TheVariants as sheets
use Rattle.tb_column.specs.StoredColumns.{column_shown}
use Rattle.tb_output.specs.Pages.{keep_left}
use Rattle.tb_output.specs.Machine.{MachineView}
use Rattle.tb_output.specs.FiringWork.{shows, IsCutShort, Does}
use Rattle.tb_output.specs.MachineFrame.{KeepsMachine}
use Rattle.tb_output.proofs.FiringWork.KeepLemmas.{keeps-same}
use Rattle.tb_output.proofs.ColumnPages.PuttingOut.{left-shows, left-keeps, out-one, out-first, out-second}
use Rattle.tb_output.proofs.FiringWork.ResultLemmas.{ok-map, err-map, either-way}
use Rattle.tb_output.proofs.ColumnPages.ShipLemmas.{ship-does, ship-fails, shipped-keeps, unshipped-same}
use Rattle.tb_output.proofs.Machine.put_by.Goals as goal

-- a page of one column
pub returns-then-not-self-clause-ok : goal.returns-then-not-self-clause-ok
returns-then-not-self-clause-ok c =
    let m = c.args.self.now in
    let s = c.args.store.now in
    let flat : m.two_columns ≡ false = ap (λ (v : MachineView). v.two_columns) (sym c.self.view_is) ∙ c.if-not-self.true in
    ok-map c.ship.result _ _ (λ h. out-one m s (column_shown s c.args.column) (shows c.ship.new.self s) flat (ship-does m s (sheets.One c.args.column) c.ship.new.self h)) c.ship.ensures.ok

pub returns-then-not-self-clause-err : goal.returns-then-not-self-clause-err
returns-then-not-self-clause-err c =
    let m = c.args.self.now in
    let s = c.args.store.now in
    let flat : m.two_columns ≡ false = ap (λ (v : MachineView). v.two_columns) (sym c.self.view_is) ∙ c.if-not-self.true in
    err-map c.ship.result _ _ (λ e h. out-one m s (column_shown s c.args.column) (IsCutShort e c.ship.new.self s) flat (ship-fails m s (sheets.One c.args.column) e c.ship.new.self h)) c.ship.ensures.err

pub returns-then-not-self-clause-keeps : goal.returns-then-not-self-clause-keeps
returns-then-not-self-clause-keeps c =
    let m = c.args.self.now in
    let s = c.args.store.now in
    either-way c.ship.result _ _ _
    (λ x h. shipped-keeps m s (sheets.One c.args.column) c.requires.machine c.ship.new.self h c.requires.column (tt, tt) (c.requires.apart, tt))
    (λ e h. subst (λ n. KeepsMachine (c.args.column.list ∷ []) m n s s) (sym (unshipped-same e m c.ship.new.self h)) (keeps-same (c.args.column.list ∷ []) m s s c.requires.machine refl))
    c.ship.ensures.ok c.ship.ensures.err

-- the first of two columns
pub returns-then-self-clause-ok : goal.returns-then-self-clause-ok
returns-then-self-clause-ok c =
    let m = c.args.self.now in
    let s = c.args.store.now in
    let paired : m.two_columns ≡ true = ap (λ (v : MachineView). v.two_columns) (sym c.self.view_is) ∙ c.if-not-self.false in
    let first : m.first_column ≡ true = ap (λ (v : MachineView). v.first_column) (sym c.self.view_is) ∙ c.if-self.true in
    out-first m s (column_shown s c.args.column) (shows c.keep_left.new.self s) paired first
    (subst (λ n. Does (shows m s) (shows n s) (keep_left (column_shown s c.args.column))) (sym c.keep_left.ensures) (left-shows m s c.args.column))

pub returns-then-self-clause-keeps : goal.returns-then-self-clause-keeps
returns-then-self-clause-keeps c =
    let m = c.args.self.now in
    let s = c.args.store.now in
    subst (λ n. KeepsMachine (c.args.column.list ∷ []) m n s s) (sym c.keep_left.ensures) (left-keeps m s c.args.column c.requires.machine c.requires.column c.requires.apart)

-- the second of two columns
pub ship_pair-requires-clause-second : goal.ship_pair-requires-clause-second
ship_pair-requires-clause-second c = ap (λ (v : MachineView). v.first_column) (sym c.self.view_is) ∙ c.if-self.false

pub returns-clause-ok : goal.returns-clause-ok
returns-clause-ok c =
    let m = c.args.self.now in
    let s = c.args.store.now in
    let paired : m.two_columns ≡ true = ap (λ (v : MachineView). v.two_columns) (sym c.self.view_is) ∙ c.if-not-self.false in
    let second : m.first_column ≡ false = ap (λ (v : MachineView). v.first_column) (sym c.self.view_is) ∙ c.if-self.false in
    ok-map c.ship_pair.result _ _ (out-second m s (column_shown s c.args.column) (shows c.ship_pair.new.self c.ship_pair.new.store) paired second) c.ship_pair.ensures.ok

pub returns-clause-err : goal.returns-clause-err
returns-clause-err c =
    let m = c.args.self.now in
    let s = c.args.store.now in
    let paired : m.two_columns ≡ true = ap (λ (v : MachineView). v.two_columns) (sym c.self.view_is) ∙ c.if-not-self.false in
    let second : m.first_column ≡ false = ap (λ (v : MachineView). v.first_column) (sym c.self.view_is) ∙ c.if-self.false in
    err-map c.ship_pair.result _ _ (λ e. out-second m s (column_shown s c.args.column) (IsCutShort e c.ship_pair.new.self c.ship_pair.new.store) paired second) c.ship_pair.ensures.err
