-- Worked rows of galleys of version 3: parameters that are set among the items.
use Rattle.std.specs.Prelude.{[], codes}
use Rattle.tb_top.specs.declared.status.Status.TheVariants.{Done, Syntax}
use Rattle.tb_words.specs.declared.Mode.TheVariants.{Report, Print}
use Rattle.tb_top.specs.Rows.{Replies}

-- each input with what the definitions give
pub record SetRows : Type 0 where
  -- a measure that is set behind a clear holds from the next page on
  pub set_after_a_clear : Replies Report (codes "galley 3\nset textheight 30\nset topskip 10\nset maxdepth 0\nset baselineskip 0\nset bottom flush\nset skipfootins 0\nset footsplittop 10\nset intextsep 0\nset textfloatsep 0\nset floatsep 0\nset fptop 0\nset fpsep 0\nset fpbot 0\nset dbltextfloatsep 0\nset dblfloatsep 0\nset dblfptop 0\nset dblfpsep 0\nset dblfpbot 0\nbox a 10 0\nclearpage\nset textheight 50\nbox b 10 0\nglue 0\nbox c 10 0\nglue 0\nbox d 10 0\nglue 0\nbox e 10 0\nend\n") Done (codes "report 1\npage 1 one\ncolumn 1 text height 30 natural 10 set stretch fil 20/65536\nbox a 0 10 0\npage 2 one\ncolumn 1 text height 50 natural 40 set stretch fil 10/65536\nbox b 0 10 0\nbox c 10 10 0\nbox d 20 10 0\nbox e 30 10 0\nend pages 2 boxes 5 floats 0 warnings 0\n") []
  -- a page is made for the top skip that holds at its first box
  pub set_for_one_page : Replies Report (codes "galley 3\nset textheight 30\nset topskip 10\nset maxdepth 0\nset baselineskip 0\nset bottom flush\nset skipfootins 0\nset footsplittop 10\nset intextsep 0\nset textfloatsep 0\nset floatsep 0\nset fptop 0\nset fpsep 0\nset fpbot 0\nset dbltextfloatsep 0\nset dblfloatsep 0\nset dblfptop 0\nset dblfpsep 0\nset dblfpbot 0\nbox a 10 0\nnewpage\nset topskip 20\nbox b 10 0\nset topskip 10\nnewpage\nbox c 10 0\nend\n") Done (codes "report 1\npage 1 one\ncolumn 1 text height 30 natural 10 set stretch fil 20/65536\nbox a 0 10 0\npage 2 one\ncolumn 1 text height 30 natural 20 set stretch fil 10/65536\nbox b 10 10 0\npage 3 one\ncolumn 1 text height 30 natural 10 set stretch fil 20/65536\nbox c 0 10 0\nend pages 3 boxes 3 floats 0 warnings 0\n") []
  -- a measure is set behind a clear alone
  pub set_elsewhere : Replies Report (codes "galley 3\nset textheight 30\nset topskip 10\nset maxdepth 0\nset baselineskip 0\nset bottom flush\nset skipfootins 0\nset footsplittop 10\nset intextsep 0\nset textfloatsep 0\nset floatsep 0\nset fptop 0\nset fpsep 0\nset fpbot 0\nset dbltextfloatsep 0\nset dblfloatsep 0\nset dblfptop 0\nset dblfpsep 0\nset dblfpbot 0\nbox a 10 0\nset textheight 50\nend\n") Syntax [] (codes "galley_pages: line 21 field 1: SetAfterItem\n")
  -- and behind one and `set` lines alone
  pub set_after_other_items : Replies Report (codes "galley 3\ntwocolumn\nset dbltextfloatsep 7\nhead T 30\nenlarge 1pt star\npage 7\nfloat F 1 single ht 20 vert nobreak\nmargin N 1 2 3 4 par\nset topskip 5\nset footrule none\nset bottom flush\nset topfraction .5\nend\n") Syntax [] (codes "galley_pages: line 12 field 1: SetAfterItem\n")
  -- the pool is as large in the whole galley
  pub set_of_the_whole : Replies Report (codes "galley 3\nset textheight 30\nset topskip 10\nset maxdepth 0\nset baselineskip 0\nset bottom flush\nset skipfootins 0\nset footsplittop 10\nset intextsep 0\nset textfloatsep 0\nset floatsep 0\nset fptop 0\nset fpsep 0\nset fpbot 0\nset dbltextfloatsep 0\nset dblfloatsep 0\nset dblfptop 0\nset dblfpsep 0\nset dblfpbot 0\nbox a 10 0\nclearpage\nset pool 5\nend\n") Syntax [] (codes "galley_pages: line 22 field 1: SetAfterItem\n")
  -- nothing is set in a footnote
  pub set_in_a_foot : Replies Report (codes "galley 3\nset textheight 30\nset topskip 10\nset maxdepth 0\nset baselineskip 0\nset bottom flush\nset skipfootins 0\nset footsplittop 10\nset intextsep 0\nset textfloatsep 0\nset floatsep 0\nset fptop 0\nset fpsep 0\nset fpbot 0\nset dbltextfloatsep 0\nset dblfloatsep 0\nset dblfptop 0\nset dblfpsep 0\nset dblfpbot 0\nbox a 10 0\nfoot\nset topskip 5\nendfoot\nend\n") Syntax [] (codes "galley_pages: line 22 field 1: SetAfterItem\n")
  -- the canonical text has them where they came
  pub printed_sets : Replies Print (codes "galley 3\nset footrule 0 1pt -2\ntwocolumn\nset dbltextfloatsep 7 plus 1fil\nset topfraction .5\nhead T 30\nenlarge 1pt star\nenlarge -3\npage 7\nfloat F 1 single th! 20 vert nobreak\nmargin N 1 2 3 4 par nobreak\nset topskip 5\nset footrule none\nset bottom flush\nend\n") Done (codes "galley 3\nset textheight 36044800\nset topskip 655360\nset maxdepth 327680\nset baselineskip 786432\nset bottom ragged\nset topnumber 2\nset bottomnumber 1\nset totalnumber 3\nset dbltopnumber 2\nset topfraction 45875/65536\nset bottomfraction 19661/65536\nset textfraction 13107/65536\nset floatpagefraction 32768/65536\nset dbltopfraction 45875/65536\nset dblfloatpagefraction 32768/65536\nset floatsep 786432 plus 131072 minus 131072\nset textfloatsep 1310720 plus 131072 minus 262144\nset intextsep 786432 plus 131072 minus 131072\nset dblfloatsep 786432 plus 131072 minus 131072\nset dbltextfloatsep 1310720 plus 131072 minus 262144\nset fptop 0 plus 65536sfil minus 0\nset fpsep 524288 plus 131072sfil minus 0\nset fpbot 0 plus 65536sfil minus 0\nset dblfptop 0 plus 65536sfil minus 0\nset dblfpsep 524288 plus 131072sfil minus 0\nset dblfpbot 0 plus 65536sfil minus 0\nset skipfootins 589824 plus 262144 minus 131072\nset footlimit 37890293\nset footsplittop 435814\nset footsplitdepth 186778\nset footfloating 20000\nset splittopskip 655360\nset splitmaxdepth 1073741823\nset floatingpenalty 0\nset interlinepenalty 0\nset parskip 0 plus 65536 minus 0\nset marginparpush 327680\nset mparswitch off\nset reversemargin off\nset pool 18\nset maxdeadcycles 100\nset maxpages 1000000\nset maxnodes 4194304\nset release 2015\nset texttop 0 plus 0 minus 0\nset textbottom 0 plus 0 minus 0\nset footrule 0 65536 -2\nset toprule none\nset bottomrule none\nset dblrule none\nset footdepth keep\nset footfill 0 plus 0 minus 0\nset footplace above\ntwocolumn\nset dbltextfloatsep 7 plus 65536sfil minus 0\nset topfraction 32768/65536\nhead T 30\nenlarge 65536 star\nenlarge -3\npage 7\nfloat F 1 single !ht 20 vert nobreak\nmargin N 1 2 3 4 par nobreak\nset topskip 5\nset footrule none\nset bottom flush\nend\n") []
