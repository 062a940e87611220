-- Worked rows: from the bytes of each galley the demerits of its pages.
use Rattle.std.specs.Prelude.{◌≡◌, ℕ, ℤ, pos, List, codes, Option, Some, None, Result, Ok, Err}
use Rattle.tb_galley.specs.declared.Galley.{Galley}
use Rattle.tb_galley.specs.declared.Fault.{Fault}
use Rattle.tb_galley.specs.Grammar.{grammar}
use Rattle.tb_rate.specs.RatedRun.{demerits}

-- the demerits of the galley that was read, if there is one
abbrev pub demerits_read : Result Galley Fault → Option ℤ
demerits_read (Ok g) = demerits g
demerits_read (Err f) = None

-- the demerits of an input
abbrev pub demerits_in : List ℕ → Option ℤ
demerits_in input = demerits_read (grammar input)

-- each input with what the definitions give
pub record DemeritRows : Type 0 where
  -- a page of one line that cannot stretch
  pub line_left_alone : demerits_in (codes "galley 1\nset textheight 40\nset topskip 10\nset maxdepth 0\nset baselineskip 0\nset bottom flush\nset skipfootins 0\nset footsplittop 10\nset intextsep 0\nset textfloatsep 0\nset floatsep 0\nset fptop 0\nset fpsep 0\nset fpbot 0\nset dbltextfloatsep 0\nbox a 10 0\nglue 0 plus 10\nbox b 10 0\nglue 0 plus 10\nbox c 10 0\nglue 0 plus 10\nbox d 10 0\nglue 0 plus 10\nbox e 10 0\nglue 0 plus 10\nbox f 35 0\nend\n") ≡ Some (pos 100000200)
  -- no page is made
  pub no_pages : demerits_in (codes "galley 1\nend\n") ≡ Some (pos 0)
  -- a page that ends at a penalty of 150
  pub page_at_a_penalty : demerits_in (codes "galley 1\nset textheight 40\nset topskip 10\nset maxdepth 0\nset baselineskip 0\nset bottom flush\nset skipfootins 0\nset footsplittop 10\nset intextsep 0\nset textfloatsep 0\nset floatsep 0\nset fptop 0\nset fpsep 0\nset fpbot 0\nset dbltextfloatsep 0\nbox a 10 0\nglue 0 plus 20\nbox b 10 0\npenalty 55\nglue 0\nbox c 20 0\npenalty 150\nglue 0\nbox d 10 0\nend\n") ≡ Some (pos 22700)
  -- a float comes too late for its page, which is short
  pub short_page_before_a_float : demerits_in (codes "galley 1\nset textheight 100\nset topskip 10\nset maxdepth 0\nset baselineskip 0\nset bottom flush\nset skipfootins 0\nset footsplittop 10\nset intextsep 0\nset textfloatsep 0\nset floatsep 0\nset fptop 0\nset fpsep 0\nset fpbot 0\nset dbltextfloatsep 0\nbox a 40 0\nglue 0 plus 60\nbox b 40 0\nglue 0 plus 60\nbox c 10 0\nfloat F 1 single t 30 par\nglue 0 plus 60\nbox d 50 0\nglue 0 plus 60\nbox e 30 0\nend\n") ≡ Some (pos 100000200)
  -- the rest of a footnote goes to the next page
  pub split_footnote : demerits_in (codes "galley 1\nset textheight 45\nset topskip 10\nset maxdepth 0\nset baselineskip 0\nset bottom flush\nset skipfootins 0\nset footsplittop 10\nset intextsep 0\nset textfloatsep 0\nset floatsep 0\nset fptop 0\nset fpsep 0\nset fpbot 0\nset dbltextfloatsep 0\nbox a 10 0\nglue 0 plus 30\nbox b 10 0\nglue 0 plus 30\nbox c 10 0\nfoot\nbox f 10 0\nglue 0\nbox g 10 0\nendfoot\nglue 0 plus 10\nbox d 10 0\nend\n") ≡ Some (pos 10200)
  -- a box that is too high for any page, and forced breaks
  pub overfull_box : demerits_in (codes "galley 1\nset textheight 30\nset topskip 10\nset maxdepth 0\nset baselineskip 0\nset bottom flush\nset skipfootins 0\nset footsplittop 10\nset intextsep 0\nset textfloatsep 0\nset floatsep 0\nset fptop 0\nset fpsep 0\nset fpbot 0\nset dbltextfloatsep 0\nbox a 10 0\nglue 0 plus 10\nbox b 50 0\nglue 0 plus 10\nbox c 10 0\nnewpage\nbox d 10 0\npagebreak 4\nbox e 10 0\nend\n") ≡ Some (pos 1200000200)
  -- a ragged page that is one line short
  pub ragged_pages : demerits_in (codes "galley 1\nset textheight 40\nset topskip 10\nset maxdepth 0\nset baselineskip 0\nset bottom ragged\nset skipfootins 0\nset footsplittop 10\nset intextsep 0\nset textfloatsep 0\nset floatsep 0\nset fptop 0\nset fpsep 0\nset fpbot 0\nset dbltextfloatsep 0\nset baselineskip 10\nbox a 10 0\npenalty 150\nglue 0\nbox b 10 0\nglue 0\nbox c 10 0\nglue 0\nbox d 10 0\npenalty 150\nglue 0\nbox e 10 0\nglue 0\nbox f 10 0\nend\n") ≡ Some (pos 22700)
  -- a run that is refused has no demerits
  pub refused_run : demerits_in (codes "galley 1\nset textheight 30\nset topskip 10\nset maxdepth 0\nset baselineskip 0\nset bottom flush\nset skipfootins 0\nset footsplittop 10\nset intextsep 0\nset textfloatsep 0\nset floatsep 0\nset fptop 0\nset fpsep 0\nset fpbot 0\nset dbltextfloatsep 0\nset maxdeadcycles 1\nclearpage\nend\n") ≡ None
  -- both columns of a page are rated
  pub two_columns : demerits_in (codes "galley 1\nset textheight 40\nset topskip 10\nset maxdepth 0\nset baselineskip 0\nset bottom flush\nset skipfootins 0\nset footsplittop 10\nset intextsep 0\nset textfloatsep 0\nset floatsep 0\nset fptop 0\nset fpsep 0\nset fpbot 0\nset dbltextfloatsep 0\ntwocolumn\nbox a 10 0\nglue 0 plus 10\nbox b 10 0\nglue 0 plus 10\nbox c 10 0\nglue 0 plus 10\nbox d 10 0\nglue 0 plus 10\nbox e 10 0\nglue 0 plus 10\nbox f 35 0\nend\n") ≡ Some (pos 100000300)
