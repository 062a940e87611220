use Rattle.std.proofs.Common.{◌≡◌, ap, subst, sym, length, length-append, [], ◌∷◌, arith}
use Rattle.std.specs.List.{AllByRecursion}
use Rattle.std.specs.declared.alloc.Global.{Global}
use Rattle.std.specs.declared.vec.Vec.{Vec}
use Rattle.tb_search.specs.declared.table.Start.{Start}
use Rattle.tb_search.proofs.KeepLemmas.{all-with}
use Rattle.tb_search.proofs.table.no_starts.Goals as goal

pub loop-preserved : goal.loop-preserved
loop-preserved c = record {
  count =
      let a = ap length c.in_ok-push.ensures.items in
      let b = length-append c.loop.starts.items (c.new.result ∷ []) in
      let e = c.loop.invariant.count in
      omega (arith, a, b, e);
  empty = subst (AllByRecursion (λ (v : Vec Start Global). v.items ≡ [])) (sym c.in_ok-push.ensures.items) (all-with (λ (v : Vec Start Global). v.items ≡ []) c.loop.starts.items c.new.result c.loop.invariant.empty c.new.ensures.items);
}
