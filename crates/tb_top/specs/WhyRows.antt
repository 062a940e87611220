-- Worked rows of what is told of decisions: from the bytes of each galley the trace with the tales between, and the summary.
use Rattle.std.specs.Prelude.{[], codes}
use Rattle.tb_top.specs.declared.status.Status.TheVariants.{Done}
use Rattle.tb_words.specs.declared.Mode.TheVariants.{Why}
use Rattle.tb_top.specs.Rows.{Replies}

-- each input with what the definitions give
pub record WhyRows : Type 0 where
  -- a float whose class stands at the bottom is tried there alone
  pub class_at_the_bottom : Replies Why (codes "galley 1\nset textheight 100\nset topskip 10\nset maxdepth 0\nset baselineskip 0\nset bottom flush\nset skipfootins 0\nset footsplittop 10\nset intextsep 0\nset textfloatsep 0\nset floatsep 0\nset fptop 0\nset fpsep 0\nset fpbot 0\nset dbltextfloatsep 0\nbox a 20 0\nfloat F 1 single b 5 par\nfloat G 1 single htb 6 par\nend\n") Done (codes "report 1\ntry 17 t 20 s 0 0 0 0 z 0 g 100 b 10000 p -10004 c -10004 #\ntry 17 t 10 s 0 0 0 0 z 0 g 1073741823 b 10000 p -10002 c -10002 #\ncall F 17 page 1 column 1 class 1 places b width single high 5 text 20\nenter F class - count 3 0 3 least 19 high 5 room 100 need 25 yes\nhere F class - room 100 need 25 no places\ntop F class - count 2 0 2 room 100 need 25 share 69 high 5 no places\nbottom F count 1 0 1 room 100 need 25 share 30 high 5 yes\ngoes F bottom\ntry 0 t 20 s 0 0 0 0 z 0 g 95 b 10000 p 0 c 100000 #\ntry 18 t 20 s 0 0 0 0 z 0 g 95 b 10000 p -10004 c -10004 #\ntry 18 t 10 s 0 0 0 0 z 0 g 1073741823 b 10000 p -10002 c -10002 #\ncall G 18 page 1 column 1 class 1 places htb width single high 6 text 20\nenter G class - count 3 1 2 least 19 high 6 room 95 need 26 yes\nhere G class F room 95 need 26 no class\nbottom G count 1 1 0 room 95 need 26 share 25 high 6 no count\ngoes G deferred\ntry 0 t 20 s 0 0 0 0 z 0 g 95 b 10000 p 0 c 100000 #\ntry 0 t 20 s 0 0 0 0 z 0 g 95 b 10000 p 0 c 100000 #\ntry 19 t 20 s 0 65536 0 0 z 0 g 95 b 0 p -10000 c -10000 #\npage 1 one\ncolumn 1 text height 100 natural 25 set stretch fil 75/65536\nbox a 0 20 0\nfloat F 1 bottom 95 5\nstart page 2 column 1 height 100\nalone G class - high 6 most 100 no places\nenter G class - count 3 0 3 least 19 high 6 room 100 need 25 yes\ntop G class - count 2 0 2 room 100 need 25 share 69 high 6 yes\ngoes G top\ntry 19 t 0 s 0 0 0 0 z 0 g 94 b 10000 p 0 c 100000 #\ntry 19 t 10 s 0 0 0 0 z 0 g 94 b 10000 p -10001 c -10001 #\nback G top\nclear page 2 column 1 height 100\nalone G class - high 6 most 100 yes\ncompany G floats 1 sum 6 least 50 yes\ngoes G page\npage 2 one\ncolumn 1 floats height 100 natural 6 set none\nfloat G 1 page 0 6\nwhy F 17 called 1 landed 1 bottom\nwhy G 18 called 1 landed 2 page because here class G 0 1\nend pages 2 boxes 1 floats 2 warnings 0\n") []
  -- a float at the top of a page without text is taken back by the clear
  pub clear_takes_a_top_float_back : Replies Why (codes "galley 1\nset textheight 100\nset topskip 10\nset maxdepth 0\nset baselineskip 0\nset bottom flush\nset skipfootins 0\nset footsplittop 10\nset intextsep 0\nset textfloatsep 0\nset floatsep 0\nset fptop 0\nset fpsep 0\nset fpbot 0\nset dbltextfloatsep 0\nset topnumber 1\nbox a 60 0\nfloat F 1 single tp 45 par\nnewpage\nend\n") Done (codes "report 1\ntry 18 t 60 s 0 0 0 0 z 0 g 100 b 10000 p -10004 c -10004 #\ntry 18 t 10 s 0 0 0 0 z 0 g 1073741823 b 10000 p -10002 c -10002 #\ncall F 18 page 1 column 1 class 1 places tp width single high 45 text 60\nenter F class - count 3 0 3 least 19 high 45 room 100 need 105 no room\ngoes F deferred\ntry 0 t 60 s 0 0 0 0 z 0 g 100 b 10000 p 0 c 100000 #\ntry 19 t 60 s 0 65536 0 0 z 0 g 100 b 0 p -10000 c -10000 #\npage 1 one\ncolumn 1 text height 100 natural 60 set stretch fil 40/65536\nbox a 0 60 0\nstart page 2 column 1 height 100\nalone F class - high 45 most 100 yes\ncompany F floats 1 sum 45 least 50 no sum\nenter F class - count 3 0 3 least 19 high 45 room 100 need 64 yes\ntop F class - count 1 0 1 room 100 need 64 share 69 high 45 yes\ngoes F top\ntry 20 t 0 s 0 0 0 0 z 0 g 55 b 10000 p 0 c 100000 #\ntry 20 t 10 s 0 0 0 0 z 0 g 55 b 10000 p -10001 c -10001 #\nback F top\nclear page 2 column 1 height 100\nalone F class - high 45 most 100 yes\ncompany F floats 1 sum 45 least 50 yes\ngoes F page\npage 2 one\ncolumn 1 floats height 100 natural 45 set none\nfloat F 1 page 0 45\nwhy F 18 called 1 landed 2 page because enter room F 6 1\nend pages 2 boxes 1 floats 1 warnings 0\n") []
  -- required room 99 is below the column room 100
  pub float_of_79_goes_here : Replies Why (codes "galley 1\nset textheight 100\nset topskip 10\nset maxdepth 0\nset baselineskip 0\nset bottom flush\nset skipfootins 0\nset footsplittop 10\nset intextsep 0\nset textfloatsep 0\nset floatsep 0\nset fptop 0\nset fpsep 0\nset fpbot 0\nset dbltextfloatsep 0\nbox a 20 0\nfloat F 1 single ht 79 par\nend\n") Done (codes "report 1\ntry 17 t 20 s 0 0 0 0 z 0 g 100 b 10000 p -10004 c -10004 #\ntry 17 t 10 s 0 0 0 0 z 0 g 1073741823 b 10000 p -10002 c -10002 #\ncall F 17 page 1 column 1 class 1 places ht width single high 79 text 20\nenter F class - count 3 0 3 least 19 high 79 room 100 need 99 yes\nhere F class - room 100 need 99 yes\ngoes F here\ntry 0 t 20 s 0 0 0 0 z 0 g 100 b 10000 p 0 c 100000 #\ntry 0 t 99 s 0 0 0 0 z 0 g 100 b 10000 p 0 c 100000 #\ntry 18 t 99 s 0 65536 0 0 z 0 g 100 b 0 p -10000 c -10000 #\npage 1 one\ncolumn 1 text height 100 natural 99 set stretch fil 1/65536\nbox a 0 20 0\nfloat F 1 here 20 79\ntry 18 t 0 s 0 0 0 0 z 0 g 100 b 10000 p 0 c 100000 #\ntry 18 t 10 s 0 0 0 0 z 0 g 100 b 10000 p -10001 c -10001 #\nwhy F 17 called 1 landed 1 here\nend pages 1 boxes 1 floats 1 warnings 0\n") []
  -- required room 100 is not below the column room 100
  pub float_of_80_is_deferred : Replies Why (codes "galley 1\nset textheight 100\nset topskip 10\nset maxdepth 0\nset baselineskip 0\nset bottom flush\nset skipfootins 0\nset footsplittop 10\nset intextsep 0\nset textfloatsep 0\nset floatsep 0\nset fptop 0\nset fpsep 0\nset fpbot 0\nset dbltextfloatsep 0\nbox a 20 0\nfloat F 1 single ht 80 par\nend\n") Done (codes "report 1\ntry 17 t 20 s 0 0 0 0 z 0 g 100 b 10000 p -10004 c -10004 #\ntry 17 t 10 s 0 0 0 0 z 0 g 1073741823 b 10000 p -10002 c -10002 #\ncall F 17 page 1 column 1 class 1 places ht width single high 80 text 20\nenter F class - count 3 0 3 least 19 high 80 room 100 need 100 no room\ngoes F deferred\ntry 0 t 20 s 0 0 0 0 z 0 g 100 b 10000 p 0 c 100000 #\ntry 18 t 20 s 0 65536 0 0 z 0 g 100 b 0 p -10000 c -10000 #\npage 1 one\ncolumn 1 text height 100 natural 20 set stretch fil 80/65536\nbox a 0 20 0\nstart page 2 column 1 height 100\nalone F class - high 80 most 100 no places\nenter F class - count 3 0 3 least 19 high 80 room 100 need 99 yes\ntop F class - count 2 0 2 room 100 need 99 share 69 high 80 no share\nbottom F count 1 0 1 room 100 need 99 share 30 high 80 no places\ngoes F deferred\ntry 18 t 0 s 0 0 0 0 z 0 g 100 b 10000 p 0 c 100000 #\ntry 18 t 10 s 0 0 0 0 z 0 g 100 b 10000 p -10001 c -10001 #\nclear page 2 column 1 height 100\nalone F class - high 80 most 100 yes\ncompany F floats 1 sum 80 least 50 yes\ngoes F page\npage 2 one\ncolumn 1 floats height 100 natural 80 set none\nfloat F 1 page 0 80\nwhy F 17 called 1 landed 2 page because enter room F 1 1\nend pages 2 boxes 1 floats 1 warnings 0\n") []
  -- the count left of F is 1 by its mark, that of G is 0
  pub bang_does_not_help_the_next_float : Replies Why (codes "galley 1\nset textheight 100\nset topskip 10\nset maxdepth 0\nset baselineskip 0\nset bottom flush\nset skipfootins 0\nset footsplittop 10\nset intextsep 0\nset textfloatsep 0\nset floatsep 0\nset fptop 0\nset fpsep 0\nset fpbot 0\nset dbltextfloatsep 0\nset bottomnumber 0\nbox a 20 0\nfloat F 1 single !b 10 par\nfloat G 2 single b 10 par\nend\n") Done (codes "report 1\ntry 18 t 20 s 0 0 0 0 z 0 g 100 b 10000 p -10004 c -10004 #\ntry 18 t 10 s 0 0 0 0 z 0 g 1073741823 b 10000 p -10002 c -10002 #\ncall F 18 page 1 column 1 class 1 places !b width single high 10 text 20\nenter F class - count 3 0 3 least 0 high 10 room 100 need 30 yes\nhere F class - room 100 need 30 no places\ntop F class - count 2 0 2 room 100 need 30 share 69 high 10 no places\nbottom F count 0 0 1 room 100 need 30 share 30 high 10 yes\ngoes F bottom\ntry 0 t 20 s 0 0 0 0 z 0 g 90 b 10000 p 0 c 100000 #\ntry 19 t 20 s 0 0 0 0 z 0 g 90 b 10000 p -10004 c -10004 #\ntry 19 t 10 s 0 0 0 0 z 0 g 1073741823 b 10000 p -10002 c -10002 #\ncall G 19 page 1 column 1 class 2 places b width single high 10 text 20\nenter G class - count 3 1 2 least 19 high 10 room 90 need 30 yes\nhere G class - room 90 need 30 no places\ntop G class - count 2 0 2 room 90 need 30 share 69 high 10 no places\nbottom G count 0 1 0 room 90 need 30 share 20 high 10 no count\ngoes G deferred\ntry 0 t 20 s 0 0 0 0 z 0 g 90 b 10000 p 0 c 100000 #\ntry 0 t 20 s 0 0 0 0 z 0 g 90 b 10000 p 0 c 100000 #\ntry 20 t 20 s 0 65536 0 0 z 0 g 90 b 0 p -10000 c -10000 #\npage 1 one\ncolumn 1 text height 100 natural 30 set stretch fil 70/65536\nbox a 0 20 0\nfloat F 1 bottom 90 10\nstart page 2 column 1 height 100\nalone G class - high 10 most 100 no places\nenter G class - count 3 0 3 least 19 high 10 room 100 need 29 yes\ntop G class - count 2 0 2 room 100 need 29 share 69 high 10 no places\nbottom G count 0 0 0 room 100 need 29 share 30 high 10 no count\ngoes G deferred\ntry 20 t 0 s 0 0 0 0 z 0 g 100 b 10000 p 0 c 100000 #\ntry 20 t 10 s 0 0 0 0 z 0 g 100 b 10000 p -10001 c -10001 #\nclear page 2 column 1 height 100\nalone G class - high 10 most 100 yes\ncompany G floats 1 sum 10 least 50 yes\ngoes G page\npage 2 one\ncolumn 1 floats height 100 natural 10 set none\nfloat G 2 page 0 10\nwhy F 18 called 1 landed 1 bottom\nwhy G 19 called 1 landed 2 page because bottom count G 0 1\nend pages 2 boxes 1 floats 2 warnings 0\n") []
  -- the float has gained t when the next column starts
  pub only_h_gains_t : Replies Why (codes "galley 1\nset textheight 100\nset topskip 10\nset maxdepth 0\nset baselineskip 0\nset bottom flush\nset skipfootins 0\nset footsplittop 10\nset intextsep 0\nset textfloatsep 0\nset floatsep 0\nset fptop 0\nset fpsep 0\nset fpbot 0\nset dbltextfloatsep 0\nbox a 60 0\nfloat F 1 single h 50 par\nnewpage\nbox b 10 0\nend\n") Done (codes "report 1\ntry 17 t 60 s 0 0 0 0 z 0 g 100 b 10000 p -10004 c -10004 #\ntry 17 t 10 s 0 0 0 0 z 0 g 1073741823 b 10000 p -10002 c -10002 #\ncall F 17 page 1 column 1 class 1 places h width single high 50 text 60\nenter F class - count 3 0 3 least 19 high 50 room 100 need 110 no room\ngoes F deferred\nwarn ht F\ntry 0 t 60 s 0 0 0 0 z 0 g 100 b 10000 p 0 c 100000 #\ntry 18 t 60 s 0 65536 0 0 z 0 g 100 b 0 p -10000 c -10000 #\npage 1 one\ncolumn 1 text height 100 natural 60 set stretch fil 40/65536\nbox a 0 60 0\nstart page 2 column 1 height 100\nalone F class - high 50 most 100 no places\nenter F class - count 3 0 3 least 19 high 50 room 100 need 69 yes\ntop F class - count 2 0 2 room 100 need 69 share 69 high 50 yes\ngoes F top\ntry 20 t 10 s 0 0 0 0 z 0 g 50 b 10000 p 0 c 100000 #\ntry 20 t 10 s 0 65536 0 0 z 0 g 50 b 0 p -10000 c -10000 #\npage 2 one\ncolumn 1 text height 100 natural 60 set stretch fil 40/65536\nfloat F 1 top 0 50\nbox b 50 10 0\ntry 20 t 0 s 0 0 0 0 z 0 g 100 b 10000 p 0 c 100000 #\ntry 20 t 10 s 0 0 0 0 z 0 g 100 b 10000 p -10001 c -10001 #\nwhy F 17 called 1 landed 2 top because enter room F 11 1\nend pages 2 boxes 2 floats 1 warnings 1\n") []
  -- F goes here, and a break carries it to the next column
  pub in_text_float_carried_past_a_later_one : Replies Why (codes "galley 1\nset textheight 100\nset topskip 10\nset maxdepth 0\nset baselineskip 0\nset bottom flush\nset skipfootins 0\nset footsplittop 10\nset intextsep 0\nset textfloatsep 0\nset floatsep 0\nset fptop 0\nset fpsep 0\nset fpbot 0\nset dbltextfloatsep 0\nbox a 40 0\nglue 0 plus 60\npenalty -9999\nbox b 10 0\nfloat F 1 single h 20 par\nbox c 10 0\nfloat G 1 single b 10 par\nbox d 20 0\nend\n") Done (codes "report 1\ntry 17 t 40 s 0 0 0 0 z 0 g 100 b 10000 p 0 c 100000 #\ntry 18 t 40 s 60 0 0 0 z 0 g 100 b 100 p -9999 c -9899 #\ntry 20 t 50 s 60 0 0 0 z 0 g 100 b 57 p -10004 c -10004 #\ntry 20 t 10 s 0 0 0 0 z 0 g 1073741823 b 10000 p -10002 c -10002 #\ncall F 20 page 1 column 1 class 1 places h width single high 20 text 50\nenter F class - count 3 0 3 least 19 high 20 room 100 need 70 yes\nhere F class - room 100 need 70 yes\ngoes F here\ntry 17 t 40 s 0 0 0 0 z 0 g 100 b 10000 p 0 c 100000 #\ntry 18 t 40 s 60 0 0 0 z 0 g 100 b 100 p -9999 c -9899 #\ntry 0 t 50 s 60 0 0 0 z 0 g 100 b 57 p 0 c 57\ntry 0 t 70 s 60 0 0 0 z 0 g 100 b 12 p 0 c 12\ntry 22 t 80 s 60 0 0 0 z 0 g 100 b 4 p -10004 c -10004 #\ntry 22 t 10 s 0 0 0 0 z 0 g 1073741823 b 10000 p -10002 c -10002 #\ncall G 22 page 1 column 1 class 1 places b width single high 10 text 80\nenter G class - count 3 1 2 least 39 high 10 room 100 need 90 yes\nhere G class - room 100 need 90 no places\ntop G class F count 2 0 2 room 100 need 90 share 69 high 10 no places\nbottom G count 1 0 1 room 100 need 90 share 30 high 10 yes\ngoes G bottom\ntry 17 t 40 s 0 0 0 0 z 0 g 90 b 10000 p 0 c 100000 #\ntry 18 t 40 s 60 0 0 0 z 0 g 90 b 57 p -9999 c -9942 #\ntry 0 t 50 s 60 0 0 0 z 0 g 90 b 30 p 0 c 30\ntry 0 t 70 s 60 0 0 0 z 0 g 90 b 4 p 0 c 4\ntry 0 t 80 s 60 0 0 0 z 0 g 90 b 0 p 0 c 0\ntry 24 t 100 s 60 0 0 0 z 0 g 90 b * p 0 c *\npage 1 one\ncolumn 1 text height 100 natural 50 set stretch normal 50/60\nbox a 0 40 0\nfloat G 1 bottom 90 10\ntry 0 t 10 s 0 0 0 0 z 0 g 100 b 10000 p 0 c 100000 #\ntry 0 t 30 s 0 0 0 0 z 0 g 100 b 10000 p 0 c 100000 #\ntry 0 t 40 s 0 0 0 0 z 0 g 100 b 10000 p 0 c 100000 #\ntry 24 t 60 s 0 0 0 0 z 0 g 100 b 10000 p 0 c 100000 #\ntry 24 t 60 s 0 65536 0 0 z 0 g 100 b 0 p -10000 c -10000 #\npage 2 one\ncolumn 1 text height 100 natural 60 set stretch fil 40/65536\nbox b 0 10 0\nfloat F 1 here 10 20\nbox c 30 10 0\nbox d 40 20 0\ntry 24 t 0 s 0 0 0 0 z 0 g 100 b 10000 p 0 c 100000 #\ntry 24 t 10 s 0 0 0 0 z 0 g 100 b 10000 p -10001 c -10001 #\nwhy F 20 called 1 landed 2 here because here carried F 0 1\nwhy G 22 called 1 landed 1 bottom\nend pages 2 boxes 4 floats 2 warnings 0\n") []
  -- shift is reach less text and high, or 0
  pub marginal_notes : Replies Why (codes "galley 1\nset textheight 100\nset topskip 10\nset maxdepth 0\nset baselineskip 0\nset bottom flush\nset skipfootins 0\nset footsplittop 10\nset intextsep 0\nset textfloatsep 0\nset floatsep 0\nset fptop 0\nset fpsep 0\nset fpbot 0\nset dbltextfloatsep 0\nset marginparpush 2\nbox a 10 2\nmargin m 8 4 8 4 par\nbox b 6 2\nmargin n 8 4 8 4 par\nnewpage\nbox c 10 0\nmargin q 8 4 8 4 par\nend\n") Done (codes "report 1\ntry 18 t 12 s 0 0 0 0 z 0 g 100 b 10000 p -10004 c -10004 #\ntry 18 t 10 s 0 0 0 0 z 0 g 1073741823 b 10000 p -10002 c -10002 #\nbeside m 18 page 1 column 1 text 10 reach 0 high 8 shift 0 right\ntry 0 t 12 s 0 0 0 0 z 0 g 100 b 10000 p 0 c 100000 #\ntry 20 t 20 s 0 0 0 0 z 0 g 100 b 10000 p -10004 c -10004 #\ntry 20 t 10 s 0 0 0 0 z 0 g 1073741823 b 10000 p -10002 c -10002 #\nbeside n 20 page 1 column 1 text 18 reach 16 high 8 shift 6 right\nwarn moved n 6\ntry 0 t 12 s 0 0 0 0 z 0 g 100 b 10000 p 0 c 100000 #\ntry 0 t 20 s 0 0 0 0 z 0 g 100 b 10000 p 0 c 100000 #\ntry 21 t 20 s 0 65536 0 0 z 0 g 100 b 0 p -10000 c -10000 #\npage 1 one\ncolumn 1 text height 100 natural 20 set stretch fil 80/65536\nbox a 0 10 2\nmargin m right 0 10 8 4\nbox b 12 6 2\nmargin n right 6 18 8 4\ntry 23 t 10 s 0 0 0 0 z 0 g 100 b 10000 p -10004 c -10004 #\ntry 23 t 10 s 0 0 0 0 z 0 g 1073741823 b 10000 p -10002 c -10002 #\nbeside q 23 page 2 column 1 text 10 reach 0 high 8 shift 0 right\ntry 0 t 10 s 0 0 0 0 z 0 g 100 b 10000 p 0 c 100000 #\ntry 24 t 10 s 0 65536 0 0 z 0 g 100 b 0 p -10000 c -10000 #\npage 2 one\ncolumn 1 text height 100 natural 10 set stretch fil 90/65536\nbox c 0 10 0\nmargin q right 0 10 8 4\ntry 24 t 0 s 0 0 0 0 z 0 g 100 b 10000 p 0 c 100000 #\ntry 24 t 10 s 0 0 0 0 z 0 g 100 b 10000 p -10001 c -10001 #\nend pages 2 boxes 3 floats 0 warnings 1\n") []
  -- the mark passes the share by
  pub bang_passes_the_share : Replies Why (codes "galley 1\nset textheight 100\nset topskip 10\nset maxdepth 0\nset baselineskip 0\nset bottom flush\nset skipfootins 0\nset footsplittop 10\nset intextsep 0\nset textfloatsep 0\nset floatsep 0\nset fptop 0\nset fpsep 0\nset fpbot 0\nset dbltextfloatsep 0\nset baselineskip 20\nbox a 10 0\nfloat F 1 single !t 75 par\nend\n") Done (codes "report 1\ntry 18 t 10 s 0 0 0 0 z 0 g 100 b 10000 p -10004 c -10004 #\ntry 18 t 10 s 0 0 0 0 z 0 g 1073741823 b 10000 p -10002 c -10002 #\ncall F 18 page 1 column 1 class 1 places !t width single high 75 text 10\nenter F class - count 3 0 3 least 0 high 75 room 100 need 85 yes\nhere F class - room 100 need 85 no places\ntop F class - count 2 0 2 room 100 need 85 share 69 high 75 yes\ngoes F top\nwarn floats 1\ntry 0 t 10 s 0 0 0 0 z 0 g 1073741823 b 10000 p 0 c 100000 #\ntry 0 t 10 s 0 0 0 0 z 0 g 1073741823 b 10000 p -10000 c -10000 #\npage 1 one\ncolumn 1 text height 100 natural 85 set none\nfloat F 1 top 0 75\nbox a 75 10 0\ntry 19 t 0 s 0 0 0 0 z 0 g 100 b 10000 p 0 c 100000 #\ntry 19 t 10 s 0 0 0 0 z 0 g 100 b 10000 p -10001 c -10001 #\nwhy F 18 called 1 landed 1 top\nend pages 1 boxes 1 floats 1 warnings 1\n") []
  -- the count is 0 of 2 with none used where the top is suppressed
  pub suppressed : Replies Why (codes "galley 1\nset textheight 100\nset topskip 10\nset maxdepth 0\nset baselineskip 0\nset bottom flush\nset skipfootins 0\nset footsplittop 10\nset intextsep 0\nset textfloatsep 0\nset floatsep 0\nset fptop 0\nset fpsep 0\nset fpbot 0\nset dbltextfloatsep 0\nsuppressfloats t\nbox a 20 0\nfloat F 1 single t 10 par\nnewpage\nbox b 10 0\nend\n") Done (codes "report 1\ntry 18 t 20 s 0 0 0 0 z 0 g 100 b 10000 p -10004 c -10004 #\ntry 18 t 10 s 0 0 0 0 z 0 g 1073741823 b 10000 p -10002 c -10002 #\ncall F 18 page 1 column 1 class 1 places t width single high 10 text 20\nenter F class - count 3 0 3 least 19 high 10 room 100 need 30 yes\nhere F class - room 100 need 30 no places\ntop F class - count 2 0 0 room 100 need 30 share 69 high 10 no count\nbottom F count 1 0 1 room 100 need 30 share 30 high 10 no places\ngoes F deferred\ntry 0 t 20 s 0 0 0 0 z 0 g 100 b 10000 p 0 c 100000 #\ntry 19 t 20 s 0 65536 0 0 z 0 g 100 b 0 p -10000 c -10000 #\npage 1 one\ncolumn 1 text height 100 natural 20 set stretch fil 80/65536\nbox a 0 20 0\nstart page 2 column 1 height 100\nalone F class - high 10 most 100 no places\nenter F class - count 3 0 3 least 19 high 10 room 100 need 29 yes\ntop F class - count 2 0 2 room 100 need 29 share 69 high 10 yes\ngoes F top\ntry 21 t 10 s 0 0 0 0 z 0 g 90 b 10000 p 0 c 100000 #\ntry 21 t 10 s 0 65536 0 0 z 0 g 90 b 0 p -10000 c -10000 #\npage 2 one\ncolumn 1 text height 100 natural 20 set stretch fil 80/65536\nfloat F 1 top 0 10\nbox b 10 10 0\ntry 21 t 0 s 0 0 0 0 z 0 g 100 b 10000 p 0 c 100000 #\ntry 21 t 10 s 0 0 0 0 z 0 g 100 b 10000 p -10001 c -10001 #\nwhy F 18 called 1 landed 2 top because top count F 0 1\nend pages 2 boxes 2 floats 1 warnings 0\n") []
  -- F is too high for the share of an empty top, so only a clear frees it and G of its class
  pub too_high_for_its_share : Replies Why (codes "galley 1\nset textheight 100\nset topskip 10\nset maxdepth 0\nset baselineskip 0\nset bottom flush\nset skipfootins 0\nset footsplittop 10\nset intextsep 0\nset textfloatsep 0\nset floatsep 0\nset fptop 0\nset fpsep 0\nset fpbot 0\nset dbltextfloatsep 0\nbox a 20 0\nfloat F 1 single t 75 par\nfloat G 1 single t 10 par\nnewpage\nbox b 10 0\nnewpage\nbox c 10 0\nend\n") Done (codes "report 1\ntry 17 t 20 s 0 0 0 0 z 0 g 100 b 10000 p -10004 c -10004 #\ntry 17 t 10 s 0 0 0 0 z 0 g 1073741823 b 10000 p -10002 c -10002 #\ncall F 17 page 1 column 1 class 1 places t width single high 75 text 20\nenter F class - count 3 0 3 least 19 high 75 room 100 need 95 yes\nhere F class - room 100 need 95 no places\ntop F class - count 2 0 2 room 100 need 95 share 69 high 75 no share\nbottom F count 1 0 1 room 100 need 95 share 30 high 75 no places\ngoes F deferred\ntry 0 t 20 s 0 0 0 0 z 0 g 100 b 10000 p 0 c 100000 #\ntry 18 t 20 s 0 0 0 0 z 0 g 100 b 10000 p -10004 c -10004 #\ntry 18 t 10 s 0 0 0 0 z 0 g 1073741823 b 10000 p -10002 c -10002 #\ncall G 18 page 1 column 1 class 1 places t width single high 10 text 20\nenter G class F count 3 0 3 least 19 high 10 room 100 need 30 no class\ngoes G deferred\ntry 0 t 20 s 0 0 0 0 z 0 g 100 b 10000 p 0 c 100000 #\ntry 0 t 20 s 0 0 0 0 z 0 g 100 b 10000 p 0 c 100000 #\ntry 19 t 20 s 0 65536 0 0 z 0 g 100 b 0 p -10000 c -10000 #\npage 1 one\ncolumn 1 text height 100 natural 20 set stretch fil 80/65536\nbox a 0 20 0\nstart page 2 column 1 height 100\nalone F class - high 75 most 100 no places\nalone G class F high 10 most 100 no places\nenter F class - count 3 0 3 least 19 high 75 room 100 need 94 yes\ntop F class - count 2 0 2 room 100 need 94 share 69 high 75 no share\nbottom F count 1 0 1 room 100 need 94 share 30 high 75 no places\ngoes F deferred\nenter G class F count 3 0 3 least 19 high 10 room 100 need 29 no class\ngoes G deferred\ntry 21 t 10 s 0 0 0 0 z 0 g 100 b 10000 p 0 c 100000 #\ntry 21 t 10 s 0 65536 0 0 z 0 g 100 b 0 p -10000 c -10000 #\npage 2 one\ncolumn 1 text height 100 natural 10 set stretch fil 90/65536\nbox b 0 10 0\nstart page 3 column 1 height 100\nalone F class - high 75 most 100 no places\nalone G class F high 10 most 100 no places\nenter F class - count 3 0 3 least 19 high 75 room 100 need 94 yes\ntop F class - count 2 0 2 room 100 need 94 share 69 high 75 no share\nbottom F count 1 0 1 room 100 need 94 share 30 high 75 no places\ngoes F deferred\nenter G class F count 3 0 3 least 19 high 10 room 100 need 29 no class\ngoes G deferred\ntry 23 t 10 s 0 0 0 0 z 0 g 100 b 10000 p 0 c 100000 #\ntry 23 t 10 s 0 65536 0 0 z 0 g 100 b 0 p -10000 c -10000 #\npage 3 one\ncolumn 1 text height 100 natural 10 set stretch fil 90/65536\nbox c 0 10 0\nstart page 4 column 1 height 100\nalone F class - high 75 most 100 no places\nalone G class F high 10 most 100 no places\nenter F class - count 3 0 3 least 19 high 75 room 100 need 94 yes\ntop F class - count 2 0 2 room 100 need 94 share 69 high 75 no share\nbottom F count 1 0 1 room 100 need 94 share 30 high 75 no places\ngoes F deferred\nenter G class F count 3 0 3 least 19 high 10 room 100 need 29 no class\ngoes G deferred\ntry 23 t 0 s 0 0 0 0 z 0 g 100 b 10000 p 0 c 100000 #\ntry 23 t 10 s 0 0 0 0 z 0 g 100 b 10000 p -10001 c -10001 #\nclear page 4 column 1 height 100\nalone F class - high 75 most 100 yes\njoins G class - high 10 sum 85 most 100 yes\ncompany F floats 2 sum 85 least 50 yes\ngoes F page\ngoes G page\npage 4 one\ncolumn 1 floats height 100 natural 85 set none\nfloat F 1 page 0 75\nfloat G 1 page 75 10\nwhy F 17 called 1 landed 4 page because top share F 7 3\nwhy G 18 called 1 landed 4 page because top share F 7 3\nend pages 4 boxes 3 floats 2 warnings 0\n") []
