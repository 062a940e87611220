-- The lines of the floats in a text, node after node.
use Rattle.std.proofs.Common.{◌≡◌, refl, sym, ◌∙◌, ap, ℕ, List, [], ◌∷◌, ◌++◌, append_assoc, append-nil, map}
use Rattle.std.specs.Prelude.{option_to_list}
use Rattle.tb_node.specs.declared.Kind.{Kind}
use Rattle.tb_node.specs.declared.Kind.TheVariants as kinds
use Rattle.tb_node.specs.declared.Node.{Node}
use Rattle.tb_node.specs.declared.What.TheVariants as what
use Rattle.tb_node.specs.declared.Where.TheVariants as places
use Rattle.tb_node.specs.PlainNodes.{plain_kind, plain_of}
use Rattle.tb_told.specs.Standing.{line_here}
use Rattle.tb_told.specs.Tales.{and_here, here_lines}

-- what a node adds
here-kind : (held : ℕ → List Node) (k : Kind) (later : List ℕ) → and_here (plain_kind held k) later ≡ option_to_list (line_here k) ++ later
here-kind held (kinds.Hbox (what.Float name class places.Here item) h d) later = refl
here-kind held k later = refl

-- these lines, and those of the nodes that are left, are all
pub here-step : (held : ℕ → List Node) (n : Node) (rest : List Node) (so_far now all : List ℕ) → now ≡ so_far ++ option_to_list (line_here n.kind) → so_far ++ here_lines (map (plain_of held) (n ∷ rest)) ≡ all → now ++ here_lines (map (plain_of held) rest) ≡ all
here-step held n rest so_far now all is h =
    let later = here_lines (map (plain_of held) rest) in
    ap (λ ls. ls ++ later) is
    ∙ append_assoc so_far (option_to_list (line_here n.kind)) later
    ∙ ap (λ ls. so_far ++ ls) (sym (here-kind held n.kind later))
    ∙ h

pub here-all : (held : ℕ → List Node) (so_far all : List ℕ) → so_far ++ here_lines (map (plain_of held) []) ≡ all → so_far ≡ all
here-all held so_far all h = sym (append-nil so_far) ∙ h
