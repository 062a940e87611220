-- Worked rows of the best pages: from the bytes of each galley the lines of its best plan and the report of its run with it.
use Rattle.std.specs.Prelude.{[], codes}
use Rattle.tb_top.specs.declared.status.Status.TheVariants.{Done, DeadCycles}
use Rattle.tb_words.specs.declared.Mode.TheVariants.{Best}
use Rattle.tb_top.specs.Rows.{Replies}

-- each input with what the definitions give
pub record BestRows : Type 0 where
  -- of two plans with the same demerits the one with the later break
  pub later_break : Replies Best (codes "galley 1\nset textheight 40\nset topskip 10\nset maxdepth 0\nset baselineskip 0\nset bottom flush\nset skipfootins 0\nset footsplittop 10\nset intextsep 0\nset textfloatsep 0\nset floatsep 0\nset fptop 0\nset fpsep 0\nset fpbot 0\nset dbltextfloatsep 0\nbox a 10 0\nglue 0 plus 10\nbox b 10 0\nglue 0 plus 10\nbox c 10 0\nglue 0 plus 10\nbox d 10 0\nglue 0 plus 10\nbox e 10 0\nglue 0 plus 10\nbox f 35 0\nend\n") Done (codes "best 1\ngreedy 100000200\nleast 657684\nbreak 21 page 1 after c\nreport 1\npage 1 one\ncolumn 1 text height 40 natural 30 set stretch normal 10/20\nbox a 0 10 0\nbox b 15 10 0\nbox c 30 10 0\npage 2 one\ncolumn 1 text height 40 natural 20 set stretch normal 20/10\nbox d 0 10 0\nbox e 30 10 0\npage 3 one\ncolumn 1 text height 40 natural 35 set stretch fil 5/65536\nbox f 0 35 0\nend pages 3 boxes 6 floats 0 warnings 0\n") []
  -- no page is made, and none is put in
  pub no_pages : Replies Best (codes "galley 1\nend\n") Done (codes "best 1\ngreedy 0\nleast 0\nreport 1\nend pages 0 boxes 0 floats 0 warnings 0\n") []
  -- a page of badness 100 at a penalty of 55 in place of a full one at 150
  pub page_at_a_penalty : Replies Best (codes "galley 1\nset textheight 40\nset topskip 10\nset maxdepth 0\nset baselineskip 0\nset bottom flush\nset skipfootins 0\nset footsplittop 10\nset intextsep 0\nset textfloatsep 0\nset floatsep 0\nset fptop 0\nset fpsep 0\nset fpbot 0\nset dbltextfloatsep 0\nbox a 10 0\nglue 0 plus 20\nbox b 10 0\npenalty 55\nglue 0\nbox c 20 0\npenalty 150\nglue 0\nbox d 10 0\nend\n") Done (codes "best 1\ngreedy 22700\nleast 16225\nbreak 19 page 1 after b\nreport 1\npage 1 one\ncolumn 1 text height 40 natural 20 set stretch normal 20/20\nbox a 0 10 0\nbox b 30 10 0\npage 2 one\ncolumn 1 text height 40 natural 30 set stretch fil 10/65536\nbox c 0 20 0\nbox d 20 10 0\nend pages 2 boxes 4 floats 0 warnings 0\n") []
  -- a break before the line with the call of a float leaves no page short
  pub page_before_a_float : Replies Best (codes "galley 1\nset textheight 100\nset topskip 10\nset maxdepth 0\nset baselineskip 0\nset bottom flush\nset skipfootins 0\nset footsplittop 10\nset intextsep 0\nset textfloatsep 0\nset floatsep 0\nset fptop 0\nset fpsep 0\nset fpbot 0\nset dbltextfloatsep 0\nbox a 40 0\nglue 0 plus 60\nbox b 40 0\nglue 0 plus 60\nbox c 10 0\nfloat F 1 single t 30 par\nglue 0 plus 60\nbox d 50 0\nglue 0 plus 60\nbox e 30 0\nend\n") Done (codes "best 1\ngreedy 100000200\nleast 1396\nbreak 19 page 1 after b\nreport 1\npage 1 one\ncolumn 1 text height 100 natural 80 set stretch normal 20/60\nbox a 0 40 0\nbox b 60 40 0\npage 2 one\ncolumn 1 text height 100 natural 90 set stretch normal 10/60\nfloat F 1 top 0 30\nbox c 30 10 0\nbox d 50 50 0\npage 3 one\ncolumn 1 text height 100 natural 30 set stretch fil 70/65536\nbox e 0 30 0\nend pages 3 boxes 5 floats 1 warnings 0\n") []
  -- a footnote that is not split
  pub whole_footnote : Replies Best (codes "galley 1\nset textheight 45\nset topskip 10\nset maxdepth 0\nset baselineskip 0\nset bottom flush\nset skipfootins 0\nset footsplittop 10\nset intextsep 0\nset textfloatsep 0\nset floatsep 0\nset fptop 0\nset fpsep 0\nset fpbot 0\nset dbltextfloatsep 0\nbox a 10 0\nglue 0 plus 30\nbox b 10 0\nglue 0 plus 30\nbox c 10 0\nfoot\nbox f 10 0\nglue 0\nbox g 10 0\nendfoot\nglue 0 plus 10\nbox d 10 0\nend\n") Done (codes "best 1\ngreedy 10200\nleast 5589\nbreak 19 page 1 after b\nreport 1\npage 1 one\ncolumn 1 text height 45 natural 20 set stretch normal 25/30\nbox a 0 10 0\nbox b 35 10 0\npage 2 one\ncolumn 1 text height 45 natural 40 set stretch fil 5/65536\nbox c 0 10 0\nbox d 10 10 0\nfootrule -196583 26214 0\nbox f 25 10 0\nbox g 35 10 0\nend pages 2 boxes 6 floats 0 warnings 0\n") []
  -- no break helps a box that is too high for any page
  pub overfull_box : Replies Best (codes "galley 1\nset textheight 30\nset topskip 10\nset maxdepth 0\nset baselineskip 0\nset bottom flush\nset skipfootins 0\nset footsplittop 10\nset intextsep 0\nset textfloatsep 0\nset floatsep 0\nset fptop 0\nset fpsep 0\nset fpbot 0\nset dbltextfloatsep 0\nbox a 10 0\nglue 0 plus 10\nbox b 50 0\nglue 0 plus 10\nbox c 10 0\nnewpage\nbox d 10 0\npagebreak 4\nbox e 10 0\nend\n") Done (codes "best 1\ngreedy 1200000200\nleast 1200000200\nreport 1\npage 1 one\ncolumn 1 text height 30 natural 10 set none\nbox a 0 10 0\npage 2 one\ncolumn 1 text height 30 natural 50 set none overfull 20\nbox b 0 50 0\npage 3 one\ncolumn 1 text height 30 natural 10 set stretch fil 20/65536\nbox c 0 10 0\npage 4 one\ncolumn 1 text height 30 natural 10 set none\nbox d 0 10 0\npage 5 one\ncolumn 1 text height 30 natural 10 set stretch fil 20/65536\nbox e 0 10 0\nend pages 5 boxes 5 floats 0 warnings 0\n") []
  -- a page that is one line short in place of a widow
  pub ragged_page : Replies Best (codes "galley 1\nset textheight 40\nset topskip 10\nset maxdepth 0\nset baselineskip 0\nset bottom ragged\nset skipfootins 0\nset footsplittop 10\nset intextsep 0\nset textfloatsep 0\nset floatsep 0\nset fptop 0\nset fpsep 0\nset fpbot 0\nset dbltextfloatsep 0\nset baselineskip 10\nbox a 10 0\npenalty 150\nglue 0\nbox b 10 0\nglue 0\nbox c 10 0\nglue 0\nbox d 10 0\npenalty 150\nglue 0\nbox e 10 0\nglue 0\nbox f 10 0\nend\n") Done (codes "best 1\ngreedy 22700\nleast 13200\nbreak 23 page 1 after c\nreport 1\npage 1 one\ncolumn 1 text height 40 natural 30 set stretch fil 10/7\nbox a 0 10 0\nbox b 10 10 0\nbox c 20 10 0\npage 2 one\ncolumn 1 text height 40 natural 30 set stretch fil 10/65543\nbox d 0 10 0\nbox e 10 10 0\nbox f 20 10 0\nend pages 2 boxes 6 floats 0 warnings 0\n") []
  -- a run that is refused without breaks writes nothing
  pub refused_run : Replies Best (codes "galley 1\nset textheight 30\nset topskip 10\nset maxdepth 0\nset baselineskip 0\nset bottom flush\nset skipfootins 0\nset footsplittop 10\nset intextsep 0\nset textfloatsep 0\nset floatsep 0\nset fptop 0\nset fpsep 0\nset fpbot 0\nset dbltextfloatsep 0\nset maxdeadcycles 1\nclearpage\nend\n") DeadCycles [] (codes "galley_pages: dead cycles 1\n")
  -- the first row in two columns
  pub two_columns : Replies Best (codes "galley 1\nset textheight 40\nset topskip 10\nset maxdepth 0\nset baselineskip 0\nset bottom flush\nset skipfootins 0\nset footsplittop 10\nset intextsep 0\nset textfloatsep 0\nset floatsep 0\nset fptop 0\nset fpsep 0\nset fpbot 0\nset dbltextfloatsep 0\ntwocolumn\nbox a 10 0\nglue 0 plus 10\nbox b 10 0\nglue 0 plus 10\nbox c 10 0\nglue 0 plus 10\nbox d 10 0\nglue 0 plus 10\nbox e 10 0\nglue 0 plus 10\nbox f 35 0\nend\n") Done (codes "best 1\ngreedy 100000300\nleast 657784\nbreak 22 page 1 after c\nreport 1\npage 1 two at 0\ncolumn 1 text height 40 natural 30 set stretch normal 10/20\nbox a 0 10 0\nbox b 15 10 0\nbox c 30 10 0\ncolumn 2 text height 40 natural 20 set stretch normal 20/10\nbox d 0 10 0\nbox e 30 10 0\npage 2 two at 0\ncolumn 1 text height 40 natural 35 set stretch fil 5/65536\nbox f 0 35 0\ncolumn 2 text height 40 natural 10 set stretch fil 30/65536\nend pages 2 boxes 6 floats 0 warnings 0\n") []
