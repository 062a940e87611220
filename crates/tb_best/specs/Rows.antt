-- Worked rows: from the bytes of each galley its best plan, with its demerits.
use Rattle.std.specs.Prelude.{◌≡◌, ℕ, ℤ, pos, List, [], ◌∷◌, codes, Option, Some, None, Result, Ok, Err}
use Rattle.tb_galley.specs.declared.Galley.{Galley}
use Rattle.tb_galley.specs.declared.Fault.{Fault}
use Rattle.tb_galley.specs.Grammar.{grammar}
use Rattle.tb_best.specs.BestOf.{RatedPlan, best_of}
use Rattle.tb_best.specs.BestLines.{best_lines}

-- the best plan of the galley that was read, if there is one
abbrev pub best_read : Result Galley Fault → Option RatedPlan
best_read (Ok g) = best_of g
best_read (Err f) = None

-- the best plan of an input
abbrev pub best_in : List ℕ → Option RatedPlan
best_in input = best_read (grammar input)

-- a plan with these demerits
abbrev pub rated_plan : List ℕ → ℤ → RatedPlan
rated_plan plan d = record { plan = plan; total = d }

-- each input with what the definitions give
pub record PlanRows : Type 0 where
  -- three boxes a page, and one of the last two: of two plans with the same demerits the one with the later break
  pub later_break : best_in (codes "galley 1\nset textheight 40\nset topskip 10\nset maxdepth 0\nset baselineskip 0\nset bottom flush\nset skipfootins 0\nset footsplittop 10\nset intextsep 0\nset textfloatsep 0\nset floatsep 0\nset fptop 0\nset fpsep 0\nset fpbot 0\nset dbltextfloatsep 0\nbox a 10 0\nglue 0 plus 10\nbox b 10 0\nglue 0 plus 10\nbox c 10 0\nglue 0 plus 10\nbox d 10 0\nglue 0 plus 10\nbox e 10 0\nglue 0 plus 10\nbox f 35 0\nend\n") ≡ Some (rated_plan (5 ∷ []) (pos 657684))
  -- no page is made
  pub no_pages : best_in (codes "galley 1\nend\n") ≡ Some (rated_plan [] (pos 0))
  -- a page of badness 100 at a penalty of 55 in place of a full one at 150
  pub page_at_a_penalty : best_in (codes "galley 1\nset textheight 40\nset topskip 10\nset maxdepth 0\nset baselineskip 0\nset bottom flush\nset skipfootins 0\nset footsplittop 10\nset intextsep 0\nset textfloatsep 0\nset floatsep 0\nset fptop 0\nset fpsep 0\nset fpbot 0\nset dbltextfloatsep 0\nbox a 10 0\nglue 0 plus 20\nbox b 10 0\npenalty 55\nglue 0\nbox c 20 0\npenalty 150\nglue 0\nbox d 10 0\nend\n") ≡ Some (rated_plan (3 ∷ []) (pos 16225))
  -- a break before the line with the call of a float leaves no page short
  pub page_before_a_float : best_in (codes "galley 1\nset textheight 100\nset topskip 10\nset maxdepth 0\nset baselineskip 0\nset bottom flush\nset skipfootins 0\nset footsplittop 10\nset intextsep 0\nset textfloatsep 0\nset floatsep 0\nset fptop 0\nset fpsep 0\nset fpbot 0\nset dbltextfloatsep 0\nbox a 40 0\nglue 0 plus 60\nbox b 40 0\nglue 0 plus 60\nbox c 10 0\nfloat F 1 single t 30 par\nglue 0 plus 60\nbox d 50 0\nglue 0 plus 60\nbox e 30 0\nend\n") ≡ Some (rated_plan (3 ∷ []) (pos 1396))
  -- a footnote that is not split
  pub whole_footnote : best_in (codes "galley 1\nset textheight 45\nset topskip 10\nset maxdepth 0\nset baselineskip 0\nset bottom flush\nset skipfootins 0\nset footsplittop 10\nset intextsep 0\nset textfloatsep 0\nset floatsep 0\nset fptop 0\nset fpsep 0\nset fpbot 0\nset dbltextfloatsep 0\nbox a 10 0\nglue 0 plus 30\nbox b 10 0\nglue 0 plus 30\nbox c 10 0\nfoot\nbox f 10 0\nglue 0\nbox g 10 0\nendfoot\nglue 0 plus 10\nbox d 10 0\nend\n") ≡ Some (rated_plan (3 ∷ []) (pos 5589))
  -- no break helps a box that is too high for any page
  pub overfull_box : best_in (codes "galley 1\nset textheight 30\nset topskip 10\nset maxdepth 0\nset baselineskip 0\nset bottom flush\nset skipfootins 0\nset footsplittop 10\nset intextsep 0\nset textfloatsep 0\nset floatsep 0\nset fptop 0\nset fpsep 0\nset fpbot 0\nset dbltextfloatsep 0\nbox a 10 0\nglue 0 plus 10\nbox b 50 0\nglue 0 plus 10\nbox c 10 0\nnewpage\nbox d 10 0\npagebreak 4\nbox e 10 0\nend\n") ≡ Some (rated_plan [] (pos 1200000200))
  -- a page that is one line short in place of a widow
  pub ragged_page : best_in (codes "galley 1\nset textheight 40\nset topskip 10\nset maxdepth 0\nset baselineskip 0\nset bottom ragged\nset skipfootins 0\nset footsplittop 10\nset intextsep 0\nset textfloatsep 0\nset floatsep 0\nset fptop 0\nset fpsep 0\nset fpbot 0\nset dbltextfloatsep 0\nset baselineskip 10\nbox a 10 0\npenalty 150\nglue 0\nbox b 10 0\nglue 0\nbox c 10 0\nglue 0\nbox d 10 0\npenalty 150\nglue 0\nbox e 10 0\nglue 0\nbox f 10 0\nend\n") ≡ Some (rated_plan (6 ∷ []) (pos 13200))
  -- a run that is refused has no demerits
  pub refused_run : best_in (codes "galley 1\nset textheight 30\nset topskip 10\nset maxdepth 0\nset baselineskip 0\nset bottom flush\nset skipfootins 0\nset footsplittop 10\nset intextsep 0\nset textfloatsep 0\nset floatsep 0\nset fptop 0\nset fpsep 0\nset fpbot 0\nset dbltextfloatsep 0\nset maxdeadcycles 1\nclearpage\nend\n") ≡ None
  -- the first row in two columns
  pub two_columns : best_in (codes "galley 1\nset textheight 40\nset topskip 10\nset maxdepth 0\nset baselineskip 0\nset bottom flush\nset skipfootins 0\nset footsplittop 10\nset intextsep 0\nset textfloatsep 0\nset floatsep 0\nset fptop 0\nset fpsep 0\nset fpbot 0\nset dbltextfloatsep 0\ntwocolumn\nbox a 10 0\nglue 0 plus 10\nbox b 10 0\nglue 0 plus 10\nbox c 10 0\nglue 0 plus 10\nbox d 10 0\nglue 0 plus 10\nbox e 10 0\nglue 0 plus 10\nbox f 35 0\nend\n") ≡ Some (rated_plan (6 ∷ []) (pos 657784))

-- the lines of the galley that was read, if there is one
abbrev pub lines_read : Result Galley Fault → List ℕ
lines_read (Ok g) = best_lines g
lines_read (Err f) = []

-- the lines of an input
abbrev pub lines_in : List ℕ → List ℕ
lines_in input = lines_read (grammar input)

-- the same inputs with their lines
pub record LineRows : Type 0 where
  pub later_break : lines_in (codes "galley 1\nset textheight 40\nset topskip 10\nset maxdepth 0\nset baselineskip 0\nset bottom flush\nset skipfootins 0\nset footsplittop 10\nset intextsep 0\nset textfloatsep 0\nset floatsep 0\nset fptop 0\nset fpsep 0\nset fpbot 0\nset dbltextfloatsep 0\nbox a 10 0\nglue 0 plus 10\nbox b 10 0\nglue 0 plus 10\nbox c 10 0\nglue 0 plus 10\nbox d 10 0\nglue 0 plus 10\nbox e 10 0\nglue 0 plus 10\nbox f 35 0\nend\n") ≡ codes "best 1\ngreedy 100000200\nleast 657684\nbreak 21 page 1 after c\n"
  pub no_pages : lines_in (codes "galley 1\nend\n") ≡ codes "best 1\ngreedy 0\nleast 0\n"
  pub page_at_a_penalty : lines_in (codes "galley 1\nset textheight 40\nset topskip 10\nset maxdepth 0\nset baselineskip 0\nset bottom flush\nset skipfootins 0\nset footsplittop 10\nset intextsep 0\nset textfloatsep 0\nset floatsep 0\nset fptop 0\nset fpsep 0\nset fpbot 0\nset dbltextfloatsep 0\nbox a 10 0\nglue 0 plus 20\nbox b 10 0\npenalty 55\nglue 0\nbox c 20 0\npenalty 150\nglue 0\nbox d 10 0\nend\n") ≡ codes "best 1\ngreedy 22700\nleast 16225\nbreak 19 page 1 after b\n"
  pub page_before_a_float : lines_in (codes "galley 1\nset textheight 100\nset topskip 10\nset maxdepth 0\nset baselineskip 0\nset bottom flush\nset skipfootins 0\nset footsplittop 10\nset intextsep 0\nset textfloatsep 0\nset floatsep 0\nset fptop 0\nset fpsep 0\nset fpbot 0\nset dbltextfloatsep 0\nbox a 40 0\nglue 0 plus 60\nbox b 40 0\nglue 0 plus 60\nbox c 10 0\nfloat F 1 single t 30 par\nglue 0 plus 60\nbox d 50 0\nglue 0 plus 60\nbox e 30 0\nend\n") ≡ codes "best 1\ngreedy 100000200\nleast 1396\nbreak 19 page 1 after b\n"
  pub whole_footnote : lines_in (codes "galley 1\nset textheight 45\nset topskip 10\nset maxdepth 0\nset baselineskip 0\nset bottom flush\nset skipfootins 0\nset footsplittop 10\nset intextsep 0\nset textfloatsep 0\nset floatsep 0\nset fptop 0\nset fpsep 0\nset fpbot 0\nset dbltextfloatsep 0\nbox a 10 0\nglue 0 plus 30\nbox b 10 0\nglue 0 plus 30\nbox c 10 0\nfoot\nbox f 10 0\nglue 0\nbox g 10 0\nendfoot\nglue 0 plus 10\nbox d 10 0\nend\n") ≡ codes "best 1\ngreedy 10200\nleast 5589\nbreak 19 page 1 after b\n"
  pub overfull_box : lines_in (codes "galley 1\nset textheight 30\nset topskip 10\nset maxdepth 0\nset baselineskip 0\nset bottom flush\nset skipfootins 0\nset footsplittop 10\nset intextsep 0\nset textfloatsep 0\nset floatsep 0\nset fptop 0\nset fpsep 0\nset fpbot 0\nset dbltextfloatsep 0\nbox a 10 0\nglue 0 plus 10\nbox b 50 0\nglue 0 plus 10\nbox c 10 0\nnewpage\nbox d 10 0\npagebreak 4\nbox e 10 0\nend\n") ≡ codes "best 1\ngreedy 1200000200\nleast 1200000200\n"
  pub ragged_page : lines_in (codes "galley 1\nset textheight 40\nset topskip 10\nset maxdepth 0\nset baselineskip 0\nset bottom ragged\nset skipfootins 0\nset footsplittop 10\nset intextsep 0\nset textfloatsep 0\nset floatsep 0\nset fptop 0\nset fpsep 0\nset fpbot 0\nset dbltextfloatsep 0\nset baselineskip 10\nbox a 10 0\npenalty 150\nglue 0\nbox b 10 0\nglue 0\nbox c 10 0\nglue 0\nbox d 10 0\npenalty 150\nglue 0\nbox e 10 0\nglue 0\nbox f 10 0\nend\n") ≡ codes "best 1\ngreedy 22700\nleast 13200\nbreak 23 page 1 after c\n"
  pub refused_run : lines_in (codes "galley 1\nset textheight 30\nset topskip 10\nset maxdepth 0\nset baselineskip 0\nset bottom flush\nset skipfootins 0\nset footsplittop 10\nset intextsep 0\nset textfloatsep 0\nset floatsep 0\nset fptop 0\nset fpsep 0\nset fpbot 0\nset dbltextfloatsep 0\nset maxdeadcycles 1\nclearpage\nend\n") ≡ []
  pub two_columns : lines_in (codes "galley 1\nset textheight 40\nset topskip 10\nset maxdepth 0\nset baselineskip 0\nset bottom flush\nset skipfootins 0\nset footsplittop 10\nset intextsep 0\nset textfloatsep 0\nset floatsep 0\nset fptop 0\nset fpsep 0\nset fpbot 0\nset dbltextfloatsep 0\ntwocolumn\nbox a 10 0\nglue 0 plus 10\nbox b 10 0\nglue 0 plus 10\nbox c 10 0\nglue 0 plus 10\nbox d 10 0\nglue 0 plus 10\nbox e 10 0\nglue 0 plus 10\nbox f 35 0\nend\n") ≡ codes "best 1\ngreedy 100000300\nleast 657784\nbreak 22 page 1 after c\n"
