-- A run of the page makeup can begin with a valid galley that it serves.
use Rattle.std.proofs.Common.{◌≡◌, ◌+◌, ◌≤◌}
use Rattle.std.specs.Prelude.{IsTrue}
use Rattle.tb_param.specs.declared.Params.{Params}
use Rattle.tb_param.specs.Ranges.{are_params}
use Rattle.tb_galley.specs.declared.Galley.{Galley}
use Rattle.tb_galley.specs.Valid.{IsValid}
use Rattle.tb_items.specs.WaitingNodes.{AreItems}
use Rattle.tb_plain.specs.GalleyNodes.{made_up}
use Rattle.tb_plain.specs.Suitability.{IsSuited}
use Rattle.tb_plain.specs.Run.{makeup_classes, first_makeup, makeup_of_state, makeup_of}
use Rattle.tb_makeup.specs.declared.makeup.Makeup.{Makeup}
use Rattle.tb_makeup.specs.Makeup.{AreRunParams, AreRunNodes, node_total, state_of}
use Rattle.tb_makeup.proofs.FromGalley.StartLemmas.{suited-items, suited-nodes, suited-room}
use Rattle.tb_top.specs.MakeupWritten.{run_on}
use Rattle.tb_steps.proofs.RunParams.{params-runnable}

pub makeup-params : (p : Params) → IsTrue (are_params p) → AreRunParams p
makeup-params p h =
    let runs = params-runnable p h in
    record {
      makeup = record {
        textheight = runs.output.columns.floats.textheight;
        maxdepth = runs.output.columns.maxdepth;
        topskip = runs.topskip;
        skipfootins = runs.output.columns.skipfootins;
        intextsep = runs.output.intextsep;
      };
      maxnodes = runs.maxnodes.high;
      maxpages = runs.output.maxpages.high;
    }

module _ (g : Galley) (valid : IsValid g) (suited : IsSuited g) where
  pub makeup-items : AreItems (makeup_classes g.params) g.items
  makeup-items = suited-items g (params-runnable g.params valid.params).foot valid suited

  pub makeup-nodes : AreRunNodes (first_makeup (made_up g))
  makeup-nodes = suited-nodes g (params-runnable g.params valid.params).foot valid suited

  pub makeup-room : node_total (first_makeup (made_up g)) + 10 ≤ 7500000
  makeup-room = suited-room g (params-runnable g.params valid.params).foot valid suited

-- a page makeup that shows the first state of a galley runs as the galley does
module _ (g : Galley) (r : Makeup) (state : state_of r ≡ first_makeup (made_up g)) (params : r.plain.params ≡ g.params) where
  pub runs-galley : run_on r ≡ makeup_of g
  unfolding makeup_of
  runs-galley = λ i. makeup_of_state (params i) (state i)
