-- Worked rows of galleys of version 3: titles over both columns.
use Rattle.std.specs.Prelude.{[], codes}
use Rattle.tb_top.specs.declared.status.Status.TheVariants.{Done, Syntax}
use Rattle.tb_words.specs.declared.Mode.TheVariants.{Report}
use Rattle.tb_top.specs.Rows.{Replies}

-- each input with what the definitions give
pub record TitleRows : Type 0 where
  -- a title takes room from the two columns of its page alone
  pub title_over_both_columns : Replies Report (codes "galley 3\nset textheight 100\nset topskip 10\nset maxdepth 0\nset baselineskip 0\nset bottom flush\nset skipfootins 0\nset footsplittop 10\nset intextsep 0\nset textfloatsep 0\nset floatsep 0\nset fptop 0\nset fpsep 0\nset fpbot 0\nset dbltextfloatsep 0\nset dblfloatsep 0\nset dblfptop 0\nset dblfpsep 0\nset dblfpbot 0\ntwocolumn\nhead T 30\nbox a 20 0\nnewpage\nbox b 10 0\nnewpage\nbox c 10 0\nend\n") Done (codes "report 1\npage 1 two at 30\nhead T 0 30\ncolumn 1 text height 70 natural 20 set stretch fil 50/65536\nbox a 0 20 0\ncolumn 2 text height 70 natural 10 set stretch fil 60/65536\nbox b 0 10 0\npage 2 two at 0\ncolumn 1 text height 100 natural 10 set stretch fil 90/65536\nbox c 0 10 0\ncolumn 2 text height 100 natural 10 set stretch fil 90/65536\nend pages 2 boxes 3 floats 1 warnings 0\n") []
  -- there is no rule below a title
  pub no_rule_below_a_title : Replies Report (codes "galley 3\nset textheight 100\nset topskip 10\nset maxdepth 0\nset baselineskip 0\nset bottom flush\nset skipfootins 0\nset footsplittop 10\nset intextsep 0\nset textfloatsep 0\nset floatsep 0\nset fptop 0\nset fpsep 0\nset fpbot 0\nset dbltextfloatsep 0\nset dblfloatsep 0\nset dblfptop 0\nset dblfpsep 0\nset dblfpbot 0\nset dblrule -3 1 2\ntwocolumn\nhead T 30\nbox a 20 0\nnewpage\nbox b 10 0\nnewpage\nbox c 10 0\nend\n") Done (codes "report 1\npage 1 two at 30\nhead T 0 30\ncolumn 1 text height 70 natural 20 set stretch fil 50/65536\nbox a 0 20 0\ncolumn 2 text height 70 natural 10 set stretch fil 60/65536\nbox b 0 10 0\npage 2 two at 0\ncolumn 1 text height 100 natural 10 set stretch fil 90/65536\nbox c 0 10 0\ncolumn 2 text height 100 natural 10 set stretch fil 90/65536\nend pages 2 boxes 3 floats 1 warnings 0\n") []
  -- a double float that is called below a title goes to the next page
  pub double_float_below_a_title : Replies Report (codes "galley 3\nset textheight 100\nset topskip 10\nset maxdepth 0\nset baselineskip 0\nset bottom flush\nset skipfootins 0\nset footsplittop 10\nset intextsep 0\nset textfloatsep 0\nset floatsep 0\nset fptop 0\nset fpsep 0\nset fpbot 0\nset dbltextfloatsep 0\nset dblfloatsep 0\nset dblfptop 0\nset dblfpsep 0\nset dblfpbot 0\ntwocolumn\nhead T 30\nbox a 20 0\nfloat W 1 double t 20 par\nnewpage\nbox b 10 0\nnewpage\nbox c 10 0\nend\n") Done (codes "report 1\npage 1 two at 30\nhead T 0 30\ncolumn 1 text height 70 natural 20 set stretch fil 50/65536\nbox a 0 20 0\ncolumn 2 text height 70 natural 10 set stretch fil 60/65536\nbox b 0 10 0\npage 2 two at 21\nfloat W 1 wide 0 20\ncolumn 1 text height 80 natural 10 set stretch fil 70/65536\nbox c 0 10 0\ncolumn 2 text height 80 natural 10 set stretch fil 70/65536\nend pages 2 boxes 3 floats 2 warnings 0\n") []
  -- the columns are lower by the height of the title and the width of `dbltextfloatsep`
  pub glue_below_a_title : Replies Report (codes "galley 3\nset textheight 100\nset topskip 10\nset maxdepth 0\nset baselineskip 0\nset bottom flush\nset skipfootins 0\nset footsplittop 10\nset intextsep 0\nset textfloatsep 0\nset floatsep 0\nset fptop 0\nset fpsep 0\nset fpbot 0\nset dblfloatsep 0\nset dblfptop 0\nset dblfpsep 0\nset dblfpbot 0\nset dbltextfloatsep 5 plus 1\ntwocolumn\nhead T 30\nbox a 20 0\nnewpage\nbox b 10 0\nend\n") Done (codes "report 1\npage 1 two at 35\nhead T 0 30\ncolumn 1 text height 65 natural 20 set stretch fil 45/65536\nbox a 0 20 0\ncolumn 2 text height 65 natural 10 set stretch fil 55/65536\nbox b 0 10 0\nend pages 1 boxes 2 floats 1 warnings 0\n") []
  -- a title with nothing below it ships as a wide page
  pub title_with_a_clear_behind : Replies Report (codes "galley 3\nset textheight 100\nset topskip 10\nset maxdepth 0\nset baselineskip 0\nset bottom flush\nset skipfootins 0\nset footsplittop 10\nset intextsep 0\nset textfloatsep 0\nset floatsep 0\nset fptop 0\nset fpsep 0\nset fpbot 0\nset dbltextfloatsep 0\nset dblfloatsep 0\nset dblfptop 0\nset dblfpsep 0\nset dblfpbot 0\ntwocolumn\nhead T 30\nclearpage\nbox a 10 0\nend\n") Done (codes "report 1\npage 1 wide\ncolumn 1 floats height 100 natural 30 set none\nhead T 0 30\npage 2 two at 0\ncolumn 1 text height 100 natural 10 set stretch fil 90/65536\nbox a 0 10 0\ncolumn 2 text height 100 natural 10 set stretch fil 90/65536\nend pages 2 boxes 1 floats 1 warnings 0\n") []
  -- a title stands directly after `twocolumn`
  pub title_elsewhere : Replies Report (codes "galley 3\nset textheight 100\nset topskip 10\nset maxdepth 0\nset baselineskip 0\nset bottom flush\nset skipfootins 0\nset footsplittop 10\nset intextsep 0\nset textfloatsep 0\nset floatsep 0\nset fptop 0\nset fpsep 0\nset fpbot 0\nset dbltextfloatsep 0\nset dblfloatsep 0\nset dblfptop 0\nset dblfpsep 0\nset dblfpbot 0\ntwocolumn\nbox a 10 0\nhead T 30\nend\n") Syntax [] (codes "galley_pages: line 22 field 1: StrayHead\n")
  -- `head` is no word of version 2
  pub title_in_version_2 : Replies Report (codes "galley 2\nset textheight 40\nset topskip 10\nset maxdepth 0\nset baselineskip 0\nset bottom flush\nset skipfootins 0\nset footsplittop 10\nset intextsep 0\nset textfloatsep 0\nset floatsep 0\nset fptop 0\nset fpsep 0\nset fpbot 0\nset dbltextfloatsep 0\nset dblfloatsep 0\nset dblfptop 0\nset dblfpsep 0\nset dblfpbot 0\ntwocolumn\nhead T 30\nend\n") Syntax [] (codes "galley_pages: line 21 field 1: UnknownWord\n")
