-- Worked rows of galleys of version 3: rules, glue at the ends of a column, how footnotes stand, and classes below them.
use Rattle.std.specs.Prelude.{[], codes}
use Rattle.tb_top.specs.declared.status.Status.TheVariants.{Done, Syntax, Range}
use Rattle.tb_words.specs.declared.Mode.TheVariants.{Report}
use Rattle.tb_top.specs.Rows.{Replies}

-- each input with what the definitions give
pub record ColumnEndRows : Type 0 where
  -- with `footdepth` drop the depth of the text is taken back
  pub depth_above_footnotes_dropped : Replies Report (codes "galley 3\nset textheight 35\nset topskip 10\nset baselineskip 0\nset bottom flush\nset skipfootins 0\nset footsplittop 10\nset intextsep 0\nset textfloatsep 0\nset floatsep 0\nset fptop 0\nset fpsep 0\nset fpbot 0\nset dbltextfloatsep 0\nset dblfloatsep 0\nset dblfptop 0\nset dblfpsep 0\nset dblfpbot 0\nset footdepth drop\nset maxdepth 5\nbox a 10 4\nfoot\nbox f 10 0\nendfoot\nglue 0\nbox b 20 0\nend\n") Done (codes "report 1\npage 1 one\ncolumn 1 text height 35 natural 20 set none\nbox a 0 10 4\nfootrule -196598 26214 0\nbox f 10 10 0\npage 2 one\ncolumn 1 text height 35 natural 20 set stretch fil 15/65536\nbox b 0 20 0\nend pages 2 boxes 3 floats 0 warnings 0\n") []
  -- else it is kept
  pub depth_above_footnotes_kept : Replies Report (codes "galley 3\nset textheight 35\nset topskip 10\nset baselineskip 0\nset bottom flush\nset skipfootins 0\nset footsplittop 10\nset intextsep 0\nset textfloatsep 0\nset floatsep 0\nset fptop 0\nset fpsep 0\nset fpbot 0\nset dbltextfloatsep 0\nset dblfloatsep 0\nset dblfptop 0\nset dblfpsep 0\nset dblfpbot 0\nset maxdepth 5\nbox a 10 4\nfoot\nbox f 10 0\nendfoot\nglue 0\nbox b 20 0\nend\n") Done (codes "report 1\npage 1 one\ncolumn 1 text height 35 natural 24 set none\nbox a 0 10 4\nfootrule -196594 26214 0\nbox f 14 10 0\npage 2 one\ncolumn 1 text height 35 natural 20 set stretch fil 15/65536\nbox b 0 20 0\nend pages 2 boxes 3 floats 0 warnings 0\n") []
  -- `footfill` stretches above the footnotes
  pub glue_above_footnotes : Replies Report (codes "galley 3\nset textheight 40\nset topskip 10\nset maxdepth 0\nset baselineskip 0\nset bottom flush\nset skipfootins 0\nset footsplittop 10\nset intextsep 0\nset textfloatsep 0\nset floatsep 0\nset fptop 0\nset fpsep 0\nset fpbot 0\nset dbltextfloatsep 0\nset dblfloatsep 0\nset dblfptop 0\nset dblfpsep 0\nset dblfpbot 0\nset footfill 0 plus 1fill\nbox a 10 0\nfoot\nbox f 10 0\nendfoot\nend\n") Done (codes "report 1\npage 1 one\ncolumn 1 text height 40 natural 20 set stretch fill 20/65536\nbox a 0 10 0\nfootrule -196578 26214 0\nbox f 30 10 0\nend pages 1 boxes 2 floats 0 warnings 0\n") []
  -- with `footplace` below the footnotes are below the floats at the bottom
  pub footnotes_below_a_bottom_float : Replies Report (codes "galley 3\nset textheight 60\nset topskip 10\nset maxdepth 0\nset baselineskip 0\nset bottom flush\nset skipfootins 0\nset footsplittop 10\nset intextsep 0\nset floatsep 0\nset fptop 0\nset fpsep 0\nset fpbot 0\nset dbltextfloatsep 0\nset dblfloatsep 0\nset dblfptop 0\nset dblfpsep 0\nset dblfpbot 0\nset footplace below\nset textfloatsep 2\nfloat F 1 single b 10 par\nbox a 10 0\nfoot\nbox f 10 0\nendfoot\nend\n") Done (codes "report 1\npage 1 one\ncolumn 1 text height 60 natural 32 set stretch fil 28/65536\nbox a 0 10 0\nfloat F 1 bottom 40 10\nfootrule -196558 26214 0\nbox f 50 10 0\nend pages 1 boxes 2 floats 1 warnings 0\n") []
  -- a rule may be none
  pub footnotes_without_a_rule : Replies Report (codes "galley 3\nset textheight 40\nset topskip 10\nset maxdepth 0\nset baselineskip 0\nset bottom flush\nset skipfootins 0\nset footsplittop 10\nset intextsep 0\nset textfloatsep 0\nset floatsep 0\nset fptop 0\nset fpsep 0\nset fpbot 0\nset dbltextfloatsep 0\nset dblfloatsep 0\nset dblfptop 0\nset dblfpsep 0\nset dblfpbot 0\nset footrule none\nbox a 10 0\nfoot\nbox f 10 0\nendfoot\nend\n") Done (codes "report 1\npage 1 one\ncolumn 1 text height 40 natural 20 set stretch fil 20/65536\nbox a 0 10 0\nbox f 30 10 0\nend pages 1 boxes 2 floats 0 warnings 0\n") []
  -- the rule above the footnotes may be another
  pub own_rule_above_footnotes : Replies Report (codes "galley 3\nset textheight 40\nset topskip 10\nset maxdepth 0\nset baselineskip 0\nset bottom flush\nset skipfootins 0\nset footsplittop 10\nset intextsep 0\nset textfloatsep 0\nset floatsep 0\nset fptop 0\nset fpsep 0\nset fpbot 0\nset dbltextfloatsep 0\nset dblfloatsep 0\nset dblfptop 0\nset dblfpsep 0\nset dblfpbot 0\nset footrule 2 3 1\nbox a 10 0\nfoot\nbox f 10 0\nendfoot\nend\n") Done (codes "report 1\npage 1 one\ncolumn 1 text height 40 natural 26 set stretch fil 14/65536\nbox a 0 10 0\nfootrule 26 3 0\nbox f 30 10 0\nend pages 1 boxes 2 floats 0 warnings 0\n") []
  -- rules beside floats
  pub rules_beside_floats : Replies Report (codes "galley 3\nset textheight 100\nset topskip 10\nset maxdepth 0\nset baselineskip 0\nset bottom flush\nset skipfootins 0\nset footsplittop 10\nset intextsep 0\nset textfloatsep 0\nset floatsep 0\nset fptop 0\nset fpsep 0\nset fpbot 0\nset dbltextfloatsep 0\nset dblfloatsep 0\nset dblfptop 0\nset dblfpsep 0\nset dblfpbot 0\nset toprule -3 1 2\nset bottomrule -4 1 3\nfloat F 1 single t 20 par\nbox a 10 0\nfloat G 2 single b 20 par\nend\n") Done (codes "report 1\npage 1 one\ncolumn 1 text height 100 natural 50 set stretch fil 50/65536\nfloat F 1 top 0 20\nfloatrule 17 1 0\nbox a 20 10 0\nfloatrule 76 1 0\nfloat G 2 bottom 80 20\nend pages 1 boxes 1 floats 2 warnings 0\n") []
  -- `texttop` and `textbottom` stretch with the column
  pub glue_at_the_ends : Replies Report (codes "galley 3\nset textheight 40\nset topskip 10\nset maxdepth 0\nset baselineskip 0\nset bottom flush\nset skipfootins 0\nset footsplittop 10\nset intextsep 0\nset textfloatsep 0\nset floatsep 0\nset fptop 0\nset fpsep 0\nset fpbot 0\nset dbltextfloatsep 0\nset dblfloatsep 0\nset dblfptop 0\nset dblfpsep 0\nset dblfpbot 0\nset texttop 0 plus 2\nset textbottom 0 plus 1\nfloat F 1 single t 5 par\nbox a 10 0\nend\n") Done (codes "report 1\npage 1 one\ncolumn 1 text height 40 natural 15 set stretch fil 25/65536\nfloat F 1 top 0 5\nbox a 5 10 0\nend pages 1 boxes 1 floats 1 warnings 0\n") []
  -- a rule is not lower than 0
  pub rule_of_a_height_below_0 : Replies Report (codes "galley 3\nset textheight 40\nset topskip 10\nset maxdepth 0\nset baselineskip 0\nset bottom flush\nset skipfootins 0\nset footsplittop 10\nset intextsep 0\nset textfloatsep 0\nset floatsep 0\nset fptop 0\nset fpsep 0\nset fpbot 0\nset dbltextfloatsep 0\nset dblfloatsep 0\nset dblfptop 0\nset dblfpsep 0\nset dblfpbot 0\nset footrule 2 -3 1\nend\n") Range [] (codes "galley_pages: line 20 field 4: Parameter\n")
  -- a rule below double floats
  pub rule_below_double_floats : Replies Report (codes "galley 3\nset textheight 100\nset topskip 10\nset maxdepth 0\nset baselineskip 0\nset bottom flush\nset skipfootins 0\nset footsplittop 10\nset intextsep 0\nset textfloatsep 0\nset floatsep 0\nset fptop 0\nset fpsep 0\nset fpbot 0\nset dbltextfloatsep 0\nset dblfloatsep 0\nset dblfptop 0\nset dblfpsep 0\nset dblfpbot 0\nset release 2014\nset dblrule -3 1 2\ntwocolumn\nbox a 10 0\nfloat W 1 double t 20 par\nnewpage\nbox b 10 0\nnewpage\nbox c 10 0\nend\n") Done (codes "report 1\npage 1 two at 0\ncolumn 1 text height 100 natural 10 set stretch fil 90/65536\nbox a 0 10 0\ncolumn 2 text height 100 natural 10 set stretch fil 90/65536\nbox b 0 10 0\npage 2 two at 20\nfloat W 1 wide 0 20\nfloatrule 17 1 0\ncolumn 1 text height 80 natural 10 set stretch fil 70/65536\nbox c 0 10 0\ncolumn 2 text height 80 natural 10 set stretch fil 70/65536\nend pages 2 boxes 3 floats 1 warnings 0\n") []
  -- a class above the footnotes, the footnotes, and a class below them under its rule
  pub class_below_the_footnotes : Replies Report (codes "galley 3\nset textheight 60\nset topskip 10\nset maxdepth 0\nset baselineskip 0\nset bottom flush\nset skipfootins 0\nset footsplittop 10\nset intextsep 0\nset textfloatsep 0\nset floatsep 0\nset fptop 0\nset fpsep 0\nset fpbot 0\nset dbltextfloatsep 0\nset dblfloatsep 0\nset dblfptop 0\nset dblfpsep 0\nset dblfpbot 0\nclass 3 1000 1000 below -2 1 1 2\nclass 4 1000 1000 1\nbox a 10 0\nfoot 3\nbox g 10 0\nendfoot\nfoot\nbox f 10 0\nendfoot\nfoot 4\nbox k 10 0\nendfoot\nend\n") Done (codes "report 1\npage 1 one\ncolumn 1 text height 60 natural 43 set stretch fil 17/65536\nbox a 0 10 0\nbox k 28 10 0\nfootrule -196570 26214 0\nbox f 38 10 0\nfootrule 48 1 0\nbox g 50 10 0\nend pages 1 boxes 4 floats 0 warnings 0\n") []
  -- `below` is no word in version 2
  pub class_below_in_version_2 : Replies Report (codes "galley 2\nclass 3 1000 1000 below -2 1 1 2\nend\n") Syntax [] (codes "galley_pages: line 2 field 5: BadNumber\n")
