use Rattle.std.proofs.Common.{rules, ◌≡◌, ap, sym, ◌∷◌, [], ◌++◌, ◌+◌, suc, ℤ, FitsSigned, w64, arith}
use Rattle.std.proofs.lemmas.Int.{to_z-of_z}
use Rattle.tb_dvi.specs.Machine.{opened, goes, State, no_registers}
use Rattle.tb_dvi.specs.declared.command.Mode.TheVariants as modes
use Rattle.tb_dvi.specs.Listing.{item_line}
use Rattle.tb_dvi.proofs.BoundLemmas.{more, stack-more, none-bounded}
use Rattle.tb_dvi.proofs.StepLemmas.{one_line}
use Rattle.tb_dvi.proofs.lister.Lister.between_step.Goals as goal

pub returns-in-Idle-clause-bounds : goal.returns-in-Idle-clause-bounds
returns-in-Idle-clause-bounds c = more c.args.place (suc c.args.place) c.args.self.now (omega arith) c.requires.bounds

pub returns-in_ok-put_page-in-Opens-clause-step : goal.returns-in_ok-put_page-in-Opens-clause-step
returns-in_ok-put_page-in-Opens-clause-step c =
    let n : ℤ = c.signed_number.result in
    let fits : FitsSigned w64 c.signed_number.result = search rules in
    let line : c.put_page.new.out.items ≡ c.args.self.now.out.items ++ item_line (opened c.signed_number.result) = simp to_z-of_z at c.in_ok-put_page-in-Opens.ensures in
    let open_page : State = record { mode = modes.OnPage no_registers; stack = []; pages = c.args.self.now.pages + 1 } in
    rw c.in-Opens.is (record {
      items = opened c.signed_number.result ∷ [];
      does = rw c.clear.ensures (ap (λ z. goes 44 (opened z ∷ []) open_page) (sym c.signed_number.ensures.value));
      listed = one_line (opened c.signed_number.result) c.args.self.now.out.items c.put_page.new.out.items line;
    })

pub returns-in_ok-put_page-in-Opens-clause-bounds : goal.returns-in_ok-put_page-in-Opens-clause-bounds
returns-in_ok-put_page-in-Opens-clause-bounds c = record {
  pages = omega (arith, c.requires.bounds.pages);
  mode = none-bounded (suc c.args.place);
  stack = rw c.clear.ensures tt;
}

pub returns-in-Post-clause-bounds : goal.returns-in-Post-clause-bounds
returns-in-Post-clause-bounds c = record {
  pages = omega (arith, c.requires.bounds.pages);
  mode = tt;
  stack = stack-more c.args.place (suc c.args.place) c.args.self.now.stack (omega arith) c.requires.bounds.stack;
}
