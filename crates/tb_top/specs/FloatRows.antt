-- Worked rows with floats in one column.
use Rattle.std.specs.Prelude.{[], codes}
use Rattle.tb_top.specs.declared.status.Status.TheVariants.{Done, Syntax, PoolFull, DeadCycles}
use Rattle.tb_words.specs.declared.Mode.TheVariants.{Report}
use Rattle.tb_top.specs.Rows.{Replies}

-- each input with what the definitions give
pub record FloatRows : Type 0 where
  -- a float that fits goes into the text
  pub float_of_79_goes_here : Replies Report (codes "galley 1\nset textheight 100\nset topskip 10\nset maxdepth 0\nset baselineskip 0\nset bottom flush\nset skipfootins 0\nset footsplittop 10\nset intextsep 0\nset textfloatsep 0\nset floatsep 0\nset fptop 0\nset fpsep 0\nset fpbot 0\nset dbltextfloatsep 0\nbox a 20 0\nfloat F 1 single ht 79 par\nend\n") Done (codes "report 1\npage 1 one\ncolumn 1 text height 100 natural 99 set stretch fil 1/65536\nbox a 0 20 0\nfloat F 1 here 20 79\nend pages 1 boxes 1 floats 1 warnings 0\n") []
  -- one that is too high waits for the next column
  pub float_of_80_is_deferred : Replies Report (codes "galley 1\nset textheight 100\nset topskip 10\nset maxdepth 0\nset baselineskip 0\nset bottom flush\nset skipfootins 0\nset footsplittop 10\nset intextsep 0\nset textfloatsep 0\nset floatsep 0\nset fptop 0\nset fpsep 0\nset fpbot 0\nset dbltextfloatsep 0\nbox a 20 0\nfloat F 1 single ht 80 par\nend\n") Done (codes "report 1\npage 1 one\ncolumn 1 text height 100 natural 20 set stretch fil 80/65536\nbox a 0 20 0\npage 2 one\ncolumn 1 floats height 100 natural 80 set none\nfloat F 1 page 0 80\nend pages 2 boxes 1 floats 1 warnings 0\n") []
  -- a float with `!` counts for the next one
  pub bang_does_not_help_the_next_float : Replies Report (codes "galley 1\nset textheight 100\nset topskip 10\nset maxdepth 0\nset baselineskip 0\nset bottom flush\nset skipfootins 0\nset footsplittop 10\nset intextsep 0\nset textfloatsep 0\nset floatsep 0\nset fptop 0\nset fpsep 0\nset fpbot 0\nset dbltextfloatsep 0\nset bottomnumber 0\nbox a 20 0\nfloat F 1 single !b 10 par\nfloat G 2 single b 10 par\nend\n") Done (codes "report 1\npage 1 one\ncolumn 1 text height 100 natural 30 set stretch fil 70/65536\nbox a 0 20 0\nfloat F 1 bottom 90 10\npage 2 one\ncolumn 1 floats height 100 natural 10 set none\nfloat G 2 page 0 10\nend pages 2 boxes 1 floats 2 warnings 0\n") []
  -- a float for the text alone that waits may go to the top
  pub only_here_may_go_to_the_top : Replies Report (codes "galley 1\nset textheight 100\nset topskip 10\nset maxdepth 0\nset baselineskip 0\nset bottom flush\nset skipfootins 0\nset footsplittop 10\nset intextsep 0\nset textfloatsep 0\nset floatsep 0\nset fptop 0\nset fpsep 0\nset fpbot 0\nset dbltextfloatsep 0\nbox a 60 0\nfloat F 1 single h 50 par\nnewpage\nbox b 10 0\nend\n") Done (codes "report 1\nwarn ht F\npage 1 one\ncolumn 1 text height 100 natural 60 set stretch fil 40/65536\nbox a 0 60 0\npage 2 one\ncolumn 1 text height 100 natural 60 set stretch fil 40/65536\nfloat F 1 top 0 50\nbox b 50 10 0\nend pages 2 boxes 2 floats 1 warnings 1\n") []
  -- a break carries a float in the text past a later one of its class
  pub carried_past_a_later_float : Replies Report (codes "galley 1\nset textheight 100\nset topskip 10\nset maxdepth 0\nset baselineskip 0\nset bottom flush\nset skipfootins 0\nset footsplittop 10\nset intextsep 0\nset textfloatsep 0\nset floatsep 0\nset fptop 0\nset fpsep 0\nset fpbot 0\nset dbltextfloatsep 0\nbox a 40 0\nglue 0 plus 60\npenalty -9999\nbox b 10 0\nfloat F 1 single h 20 par\nbox c 10 0\nfloat G 1 single b 10 par\nbox d 20 0\nend\n") Done (codes "report 1\npage 1 one\ncolumn 1 text height 100 natural 50 set stretch normal 50/60\nbox a 0 40 0\nfloat G 1 bottom 90 10\npage 2 one\ncolumn 1 text height 100 natural 60 set stretch fil 40/65536\nbox b 0 10 0\nfloat F 1 here 10 20\nbox c 30 10 0\nbox d 40 20 0\nend pages 2 boxes 4 floats 2 warnings 0\n") []
  -- a float may not pass an earlier one of its class
  pub may_not_pass_one_of_its_class : Replies Report (codes "galley 1\nset textheight 100\nset topskip 10\nset maxdepth 0\nset baselineskip 0\nset bottom flush\nset skipfootins 0\nset footsplittop 10\nset intextsep 0\nset textfloatsep 0\nset floatsep 0\nset fptop 0\nset fpsep 0\nset fpbot 0\nset dbltextfloatsep 0\nbox a 20 0\nfloat F 1 single h 20 par\nfloat G 1 single t 10 par\nbox b 10 0\nend\n") Done (codes "report 1\npage 1 one\ncolumn 1 text height 100 natural 50 set stretch fil 50/65536\nbox a 0 20 0\nfloat F 1 here 20 20\nbox b 40 10 0\npage 2 one\ncolumn 1 floats height 100 natural 10 set none\nfloat G 1 page 0 10\nend pages 2 boxes 2 floats 2 warnings 0\n") []
  -- a column of floats above its minimum
  pub float_page_above_the_minimum : Replies Report (codes "galley 1\nset textheight 100\nset topskip 10\nset maxdepth 0\nset baselineskip 0\nset bottom flush\nset skipfootins 0\nset footsplittop 10\nset intextsep 0\nset textfloatsep 0\nset floatsep 0\nset fptop 0\nset fpsep 0\nset fpbot 0\nset dbltextfloatsep 0\nbox a 20 0\nfloat F 1 single p 51 par\nnewpage\nbox b 10 0\nend\n") Done (codes "report 1\npage 1 one\ncolumn 1 text height 100 natural 20 set stretch fil 80/65536\nbox a 0 20 0\npage 2 one\ncolumn 1 floats height 100 natural 51 set none\nfloat F 1 page 0 51\npage 3 one\ncolumn 1 text height 100 natural 10 set stretch fil 90/65536\nbox b 0 10 0\nend pages 3 boxes 2 floats 1 warnings 0\n") []
  -- a column of floats at its minimum
  pub float_page_at_the_minimum : Replies Report (codes "galley 1\nset textheight 100\nset topskip 10\nset maxdepth 0\nset baselineskip 0\nset bottom flush\nset skipfootins 0\nset footsplittop 10\nset intextsep 0\nset textfloatsep 0\nset floatsep 0\nset fptop 0\nset fpsep 0\nset fpbot 0\nset dbltextfloatsep 0\nbox a 20 0\nfloat F 1 single p 50 par\nnewpage\nbox b 10 0\nend\n") Done (codes "report 1\npage 1 one\ncolumn 1 text height 100 natural 20 set stretch fil 80/65536\nbox a 0 20 0\npage 2 one\ncolumn 1 text height 100 natural 10 set stretch fil 90/65536\nbox b 0 10 0\npage 3 one\ncolumn 1 floats height 100 natural 50 set none\nfloat F 1 page 0 50\nend pages 3 boxes 2 floats 1 warnings 0\n") []
  -- the pool is full at a float
  pub pool_full_at_a_float : Replies Report (codes "galley 1\nset textheight 100\nset topskip 10\nset maxdepth 0\nset baselineskip 0\nset bottom flush\nset skipfootins 0\nset footsplittop 10\nset intextsep 0\nset textfloatsep 0\nset floatsep 0\nset fptop 0\nset fpsep 0\nset fpbot 0\nset dbltextfloatsep 0\nset pool 2\nbox a 60 0\nfloat F 1 single b 50 par\nfloat G 1 single b 50 par\nnewpage\nbox b 10 0\nfloat H 1 single b 50 par\nend\n") PoolFull (codes "report 1\npage 1 one\ncolumn 1 text height 100 natural 60 set stretch fil 40/65536\nbox a 0 60 0\n") (codes "galley_pages: line 22: float pool full at 2\n")
  -- floats fire too often without a page
  pub dead_cycles_of_floats : Replies Report (codes "galley 1\nset textheight 100\nset topskip 10\nset maxdepth 0\nset baselineskip 0\nset bottom flush\nset skipfootins 0\nset footsplittop 10\nset intextsep 0\nset textfloatsep 0\nset floatsep 0\nset fptop 0\nset fpsep 0\nset fpbot 0\nset dbltextfloatsep 0\nset maxdeadcycles 4\nbox a 10 0\nfloat F 1 single p 60 par\nfloat G 1 single p 60 par\nfloat H 1 single p 60 par\nend\n") DeadCycles (codes "report 1\n") (codes "galley_pages: dead cycles 4\n")
  -- the same within the bound
  pub dead_cycles_within_the_bound : Replies Report (codes "galley 1\nset textheight 100\nset topskip 10\nset maxdepth 0\nset baselineskip 0\nset bottom flush\nset skipfootins 0\nset footsplittop 10\nset intextsep 0\nset textfloatsep 0\nset floatsep 0\nset fptop 0\nset fpsep 0\nset fpbot 0\nset dbltextfloatsep 0\nset maxdeadcycles 28\nbox a 10 0\nfloat F 1 single p 60 par\nfloat G 1 single p 60 par\nfloat H 1 single p 60 par\nend\n") Done (codes "report 1\npage 1 one\ncolumn 1 text height 100 natural 10 set stretch fil 90/65536\nbox a 0 10 0\npage 2 one\ncolumn 1 floats height 100 natural 60 set none\nfloat F 1 page 0 60\npage 3 one\ncolumn 1 floats height 100 natural 60 set none\nfloat G 1 page 0 60\npage 4 one\ncolumn 1 floats height 100 natural 60 set none\nfloat H 1 page 0 60\nend pages 4 boxes 1 floats 3 warnings 0\n") []
  -- a page of an article
  pub article_page : Replies Report (codes "galley 1\nbox p1 7pt 2pt\nfoot\nbox f1 6.65pt 2.85pt\nendfoot\nglue 0pt plus 1pt\nglue 3pt\nbox p2 7pt 2pt\nglue 0pt plus 1pt\nglue 3pt\nbox p3 7pt 2pt\nfloat figA 1 single tbp 100pt par\nglue 0pt plus 1pt\nglue 3pt\nbox p4 7pt 2pt\nglue 0pt plus 1pt\nglue 3pt\nbox p5 7pt 2pt\nfoot\nbox f2 6.65pt 2.85pt\nendfoot\nglue 0pt plus 1pt\nglue 3pt\nbox p6 7pt 2pt\nfloat tabA 2 single ht 60pt vert\nglue 0pt plus 1pt\nglue 3pt\nbox p7 7pt 2pt\nglue 0pt plus 1pt\nglue 3pt\nbox p8 7pt 2pt\nglue 0pt plus 1pt\nglue 3pt\nbox p9 7pt 2pt\nnote idx\nglue 0pt plus 1pt\nglue 3pt\nbox p10 7pt 2pt\nglue 0pt plus 1pt\nglue 3pt\nbox p11 7pt 2pt\nglue 0pt plus 1pt\nglue 3pt\nbox p12 7pt 2pt\nend\n") Done (codes "report 1\npage 1 one\ncolumn 1 text height 36044800 natural 24454758 set stretch fil 11590042/65543\nfloat figA 1 top 0 6553600\nbox p1 8060928 458752 131072\nbox p2 8847360 458752 131072\nbox p3 9633792 458752 131072\nbox p4 10420224 458752 131072\nbox p5 11206656 458752 131072\nbox p6 11993088 458752 131072\nfloat tabA 2 here 13369344 3932160\nbox p7 18284544 458752 131072\nbox p8 19070976 458752 131072\nbox p9 19857408 458752 131072\nnote idx 20447232\nbox p10 20643840 458752 131072\nbox p11 21430272 458752 131072\nbox p12 22216704 458752 131072\nfootrule 34788548 26214 0\nbox f1 34985156 435814 186778\nbox f2 35607748 435814 186778\nend pages 1 boxes 14 floats 2 warnings 0\n") []
  -- the same without its last byte
  pub article_cut_by_a_byte : Replies Report (codes "galley 1\nbox p1 7pt 2pt\nfoot\nbox f1 6.65pt 2.85pt\nendfoot\nglue 0pt plus 1pt\nglue 3pt\nbox p2 7pt 2pt\nglue 0pt plus 1pt\nglue 3pt\nbox p3 7pt 2pt\nfloat figA 1 single tbp 100pt par\nglue 0pt plus 1pt\nglue 3pt\nbox p4 7pt 2pt\nglue 0pt plus 1pt\nglue 3pt\nbox p5 7pt 2pt\nfoot\nbox f2 6.65pt 2.85pt\nendfoot\nglue 0pt plus 1pt\nglue 3pt\nbox p6 7pt 2pt\nfloat tabA 2 single ht 60pt vert\nglue 0pt plus 1pt\nglue 3pt\nbox p7 7pt 2pt\nglue 0pt plus 1pt\nglue 3pt\nbox p8 7pt 2pt\nglue 0pt plus 1pt\nglue 3pt\nbox p9 7pt 2pt\nnote idx\nglue 0pt plus 1pt\nglue 3pt\nbox p10 7pt 2pt\nglue 0pt plus 1pt\nglue 3pt\nbox p11 7pt 2pt\nglue 0pt plus 1pt\nglue 3pt\nbox p12 7pt 2pt\nend") Done (codes "report 1\npage 1 one\ncolumn 1 text height 36044800 natural 24454758 set stretch fil 11590042/65543\nfloat figA 1 top 0 6553600\nbox p1 8060928 458752 131072\nbox p2 8847360 458752 131072\nbox p3 9633792 458752 131072\nbox p4 10420224 458752 131072\nbox p5 11206656 458752 131072\nbox p6 11993088 458752 131072\nfloat tabA 2 here 13369344 3932160\nbox p7 18284544 458752 131072\nbox p8 19070976 458752 131072\nbox p9 19857408 458752 131072\nnote idx 20447232\nbox p10 20643840 458752 131072\nbox p11 21430272 458752 131072\nbox p12 22216704 458752 131072\nfootrule 34788548 26214 0\nbox f1 34985156 435814 186778\nbox f2 35607748 435814 186778\nend pages 1 boxes 14 floats 2 warnings 0\n") []
  -- and without its last two
  pub article_cut_by_two_bytes : Replies Report (codes "galley 1\nbox p1 7pt 2pt\nfoot\nbox f1 6.65pt 2.85pt\nendfoot\nglue 0pt plus 1pt\nglue 3pt\nbox p2 7pt 2pt\nglue 0pt plus 1pt\nglue 3pt\nbox p3 7pt 2pt\nfloat figA 1 single tbp 100pt par\nglue 0pt plus 1pt\nglue 3pt\nbox p4 7pt 2pt\nglue 0pt plus 1pt\nglue 3pt\nbox p5 7pt 2pt\nfoot\nbox f2 6.65pt 2.85pt\nendfoot\nglue 0pt plus 1pt\nglue 3pt\nbox p6 7pt 2pt\nfloat tabA 2 single ht 60pt vert\nglue 0pt plus 1pt\nglue 3pt\nbox p7 7pt 2pt\nglue 0pt plus 1pt\nglue 3pt\nbox p8 7pt 2pt\nglue 0pt plus 1pt\nglue 3pt\nbox p9 7pt 2pt\nnote idx\nglue 0pt plus 1pt\nglue 3pt\nbox p10 7pt 2pt\nglue 0pt plus 1pt\nglue 3pt\nbox p11 7pt 2pt\nglue 0pt plus 1pt\nglue 3pt\nbox p12 7pt 2pt\nen") Syntax [] (codes "galley_pages: line 45 field 1: UnknownWord\n")
  -- a page holds floats alone
  pub page_holds_only_floats : Replies Report (codes "galley 1\nset textheight 100\nset topskip 10\nset maxdepth 0\nset baselineskip 0\nset bottom flush\nset skipfootins 0\nset footsplittop 10\nset intextsep 0\nset textfloatsep 0\nset floatsep 0\nset fptop 0\nset fpsep 0\nset fpbot 0\nset dbltextfloatsep 0\nset baselineskip 20\nbox a 10 0\nfloat F 1 single !t 75 par\nend\n") Done (codes "report 1\nwarn floats 1\npage 1 one\ncolumn 1 text height 100 natural 85 set none\nfloat F 1 top 0 75\nbox a 75 10 0\nend pages 1 boxes 1 floats 1 warnings 1\n") []
  -- a float higher than a page is cut to its height
  pub large_float : Replies Report (codes "galley 1\nset textheight 100\nset topskip 10\nset maxdepth 0\nset baselineskip 0\nset bottom flush\nset skipfootins 0\nset footsplittop 10\nset intextsep 0\nset textfloatsep 0\nset floatsep 0\nset fptop 0\nset fpsep 0\nset fpbot 0\nset dbltextfloatsep 0\nbox a 10 0\nfloat F 1 single p 150 par\nend\n") Done (codes "report 1\nwarn large F 50\npage 1 one\ncolumn 1 text height 100 natural 10 set stretch fil 90/65536\nbox a 0 10 0\npage 2 one\ncolumn 1 floats height 100 natural 100 set none\nfloat F 1 page 0 100\nend pages 2 boxes 1 floats 1 warnings 1\n") []
  -- a float at the bottom keeps a later one of its class from the top
  pub class_at_the_bottom_keeps_from_the_top : Replies Report (codes "galley 1\nset textheight 100\nset topskip 10\nset maxdepth 0\nset baselineskip 0\nset bottom flush\nset skipfootins 0\nset footsplittop 10\nset intextsep 0\nset textfloatsep 0\nset floatsep 0\nset fptop 0\nset fpsep 0\nset fpbot 0\nset dbltextfloatsep 0\nbox a 20 0\nfloat F 1 single b 20 par\nfloat G 1 single t 10 par\nbox b 10 0\nend\n") Done (codes "report 1\npage 1 one\ncolumn 1 text height 100 natural 50 set stretch fil 50/65536\nbox a 0 20 0\nbox b 20 10 0\nfloat F 1 bottom 80 20\npage 2 one\ncolumn 1 floats height 100 natural 10 set none\nfloat G 1 page 0 10\nend pages 2 boxes 2 floats 2 warnings 0\n") []
  -- a double float is single in one column
  pub double_float_in_one_column : Replies Report (codes "galley 1\nset textheight 100\nset topskip 10\nset maxdepth 0\nset baselineskip 0\nset bottom flush\nset skipfootins 0\nset footsplittop 10\nset intextsep 0\nset textfloatsep 0\nset floatsep 0\nset fptop 0\nset fpsep 0\nset fpbot 0\nset dbltextfloatsep 0\nfloat W 1 double h 20 par\nbox a 10 0\nend\n") Done (codes "report 1\npage 1 one\ncolumn 1 text height 100 natural 30 set stretch fil 70/65536\nfloat W 1 here 0 20\nbox a 20 10 0\nend pages 1 boxes 1 floats 1 warnings 0\n") []
