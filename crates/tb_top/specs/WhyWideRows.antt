-- Worked rows of what is told of columns of floats, clears, wide floats and refusals.
use Rattle.std.specs.Prelude.{[], codes}
use Rattle.tb_top.specs.declared.status.Status.TheVariants.{Done, PoolFull, PageLimit}
use Rattle.tb_words.specs.declared.Mode.TheVariants.{Why}
use Rattle.tb_top.specs.Rows.{Replies}

-- each input with what the definitions give
pub record WhyWideRows : Type 0 where
  -- a clear at the first column takes the float above both columns back
  pub clear_takes_a_wide_float_back : Replies Why (codes "galley 1\nset textheight 100\nset topskip 10\nset maxdepth 0\nset baselineskip 0\nset bottom flush\nset skipfootins 0\nset footsplittop 10\nset intextsep 0\nset textfloatsep 0\nset floatsep 0\nset fptop 0\nset fpsep 0\nset fpbot 0\nset dbltextfloatsep 0\ntwocolumn\nbox a 20 0\nfloat W 1 double t 30 par\nnewpage\nbox b 10 0\nnewpage\nclearpage\nbox c 10 0\nend\n") Done (codes "report 1\ntry 16 t 0 s 0 0 0 0 z 0 g 100 b 10000 p 0 c 100000 #\ntry 16 t 10 s 0 0 0 0 z 0 g 100 b 10000 p -10001 c -10001 #\ntry 17 t 0 s 0 0 0 0 z 0 g 100 b 10000 p 0 c 100000 #\ntry 18 t 20 s 0 0 0 0 z 0 g 100 b 10000 p -10004 c -10004 #\ntry 18 t 10 s 0 0 0 0 z 0 g 1073741823 b 10000 p -10002 c -10002 #\ncall W 18 page 1 column 1 class 1 places t width double high 30 text 20\nenter W class - count 3 0 3 least 19 high 30 room 100 need 50 no wide\ngoes W deferred\ntry 17 t 0 s 0 0 0 0 z 0 g 100 b 10000 p 0 c 100000 #\ntry 0 t 20 s 0 0 0 0 z 0 g 100 b 10000 p 0 c 100000 #\ntry 19 t 20 s 0 65536 0 0 z 0 g 100 b 0 p -10000 c -10000 #\ntry 21 t 10 s 0 0 0 0 z 0 g 100 b 10000 p 0 c 100000 #\ntry 21 t 10 s 0 65536 0 0 z 0 g 100 b 0 p -10000 c -10000 #\npage 1 two at 0\ncolumn 1 text height 100 natural 20 set stretch fil 80/65536\nbox a 0 20 0\ncolumn 2 text height 100 natural 10 set stretch fil 90/65536\nbox b 0 10 0\nstart page 2 wide height 100\nalone W class - high 30 most 100 no places\nwide W class - count 2 0 2 room 69 high 30 yes\ngoes W wide\ntry 22 t 0 s 0 0 0 0 z 0 g 70 b 10000 p 0 c 100000 #\ntry 22 t 10 s 0 0 0 0 z 0 g 70 b 10000 p -10001 c -10001 #\nback W wide\nclear page 2 wide height 100\nalone W class - high 30 most 100 yes\ncompany W floats 1 sum 30 least 50 yes\ngoes W page\npage 2 wide\ncolumn 1 floats height 100 natural 30 set stretch fil 70/131072\nfloat W 1 page 35 30\ntry 23 t 0 s 0 0 0 0 z 0 g 100 b 10000 p 0 c 100000 #\ntry 24 t 10 s 0 0 0 0 z 0 g 100 b 10000 p 0 c 100000 #\ntry 24 t 10 s 0 65536 0 0 z 0 g 100 b 0 p -10000 c -10000 #\ntry 24 t 0 s 0 0 0 0 z 0 g 100 b 10000 p 0 c 100000 #\ntry 24 t 10 s 0 0 0 0 z 0 g 100 b 10000 p -10001 c -10001 #\ntry 0 t 0 s 0 0 0 0 z 0 g 100 b 10000 p 0 c 100000 #\ntry 0 t 10 s 0 0 0 0 z 0 g 100 b 10000 p 0 c 100000 #\ntry 0 t 10 s 0 65536 0 0 z 0 g 100 b 0 p -10000 c -10000 #\npage 3 two at 0\ncolumn 1 text height 100 natural 10 set stretch fil 90/65536\nbox c 0 10 0\ncolumn 2 text height 100 natural 10 set stretch fil 90/65536\ntry 0 t 0 s 0 0 0 0 z 0 g 100 b 10000 p 0 c 100000 #\ntry 0 t 10 s 0 0 0 0 z 0 g 100 b 10000 p -10001 c -10001 #\nwhy W 18 called 1 landed 2 page because enter wide W 0 2\nend pages 3 boxes 3 floats 1 warnings 0\n") []
  -- the company of F is too low, G heads a second one that is made; H waits for F, and K is too high for it
  pub company_of_two_heads : Replies Why (codes "galley 1\nset textheight 100\nset topskip 10\nset maxdepth 0\nset baselineskip 0\nset bottom flush\nset skipfootins 0\nset footsplittop 10\nset intextsep 0\nset textfloatsep 0\nset floatsep 0\nset fptop 0\nset fpsep 0\nset fpbot 0\nset dbltextfloatsep 0\nbox a 20 0\nfloat F 1 single p 30 par\nfloat G 2 single p 80 par\nfloat H 1 single p 10 par\nfloat K 2 single p 21 par\nnewpage\nbox b 10 0\nend\n") Done (codes "report 1\ntry 17 t 20 s 0 0 0 0 z 0 g 100 b 10000 p -10004 c -10004 #\ntry 17 t 10 s 0 0 0 0 z 0 g 1073741823 b 10000 p -10002 c -10002 #\ncall F 17 page 1 column 1 class 1 places p width single high 30 text 20\nenter F class - count 3 0 3 least 19 high 30 room 100 need 50 no places\ngoes F deferred\ntry 0 t 20 s 0 0 0 0 z 0 g 100 b 10000 p 0 c 100000 #\ntry 18 t 20 s 0 0 0 0 z 0 g 100 b 10000 p -10004 c -10004 #\ntry 18 t 10 s 0 0 0 0 z 0 g 1073741823 b 10000 p -10002 c -10002 #\ncall G 18 page 1 column 1 class 2 places p width single high 80 text 20\nenter G class - count 3 0 3 least 19 high 80 room 100 need 100 no places\ngoes G deferred\ntry 0 t 20 s 0 0 0 0 z 0 g 100 b 10000 p 0 c 100000 #\ntry 0 t 20 s 0 0 0 0 z 0 g 100 b 10000 p 0 c 100000 #\ntry 19 t 20 s 0 0 0 0 z 0 g 100 b 10000 p -10004 c -10004 #\ntry 19 t 10 s 0 0 0 0 z 0 g 1073741823 b 10000 p -10002 c -10002 #\ncall H 19 page 1 column 1 class 1 places p width single high 10 text 20\nenter H class F count 3 0 3 least 19 high 10 room 100 need 30 no places\ngoes H deferred\ntry 0 t 20 s 0 0 0 0 z 0 g 100 b 10000 p 0 c 100000 #\ntry 0 t 20 s 0 0 0 0 z 0 g 100 b 10000 p 0 c 100000 #\ntry 0 t 20 s 0 0 0 0 z 0 g 100 b 10000 p 0 c 100000 #\ntry 20 t 20 s 0 0 0 0 z 0 g 100 b 10000 p -10004 c -10004 #\ntry 20 t 10 s 0 0 0 0 z 0 g 1073741823 b 10000 p -10002 c -10002 #\ncall K 20 page 1 column 1 class 2 places p width single high 21 text 20\nenter K class G count 3 0 3 least 19 high 21 room 100 need 41 no places\ngoes K deferred\ntry 0 t 20 s 0 0 0 0 z 0 g 100 b 10000 p 0 c 100000 #\ntry 0 t 20 s 0 0 0 0 z 0 g 100 b 10000 p 0 c 100000 #\ntry 0 t 20 s 0 0 0 0 z 0 g 100 b 10000 p 0 c 100000 #\ntry 0 t 20 s 0 0 0 0 z 0 g 100 b 10000 p 0 c 100000 #\ntry 21 t 20 s 0 65536 0 0 z 0 g 100 b 0 p -10000 c -10000 #\npage 1 one\ncolumn 1 text height 100 natural 20 set stretch fil 80/65536\nbox a 0 20 0\nstart page 2 column 1 height 100\nalone F class - high 30 most 100 yes\ncompany F floats 2 sum 40 least 50 no sum\nalone G class - high 80 most 100 yes\njoins H class F high 10 sum 90 most 100 no class\njoins K class - high 21 sum 101 most 100 no sum\ncompany G floats 1 sum 80 least 50 yes\ngoes G page\npage 2 one\ncolumn 1 floats height 100 natural 80 set none\nfloat G 2 page 0 80\nstart page 3 column 1 height 100\nalone F class - high 30 most 100 yes\njoins H class - high 10 sum 40 most 100 yes\njoins K class - high 21 sum 61 most 100 yes\ncompany F floats 3 sum 61 least 50 yes\ngoes F page\ngoes H page\ngoes K page\npage 3 one\ncolumn 1 floats height 100 natural 61 set none\nfloat F 1 page 0 30\nfloat H 1 page 30 10\nfloat K 2 page 40 21\ntry 23 t 10 s 0 0 0 0 z 0 g 100 b 10000 p 0 c 100000 #\ntry 23 t 10 s 0 65536 0 0 z 0 g 100 b 0 p -10000 c -10000 #\npage 4 one\ncolumn 1 text height 100 natural 10 set stretch fil 90/65536\nbox b 0 10 0\ntry 23 t 0 s 0 0 0 0 z 0 g 100 b 10000 p 0 c 100000 #\ntry 23 t 10 s 0 0 0 0 z 0 g 100 b 10000 p -10001 c -10001 #\nwhy F 17 called 1 landed 3 page because enter places F 0 1 company sum F 11 1\nwhy G 18 called 1 landed 2 page because enter places G 0 1\nwhy H 19 called 1 landed 3 page because enter places H 0 1 company sum F 11 1\nwhy K 20 called 1 landed 3 page because enter places K 0 1 joins sum K 1 1\nend pages 4 boxes 2 floats 4 warnings 0\n") []
  -- the column of floats may not ship: the lines end at the page limit, and the summary says what waits
  pub page_limit_ends_the_lines : Replies Why (codes "galley 1\nset maxpages 1\nset textheight 100\nset topskip 10\nset maxdepth 0\nset baselineskip 0\nset bottom flush\nset skipfootins 0\nset footsplittop 10\nset intextsep 0\nset textfloatsep 0\nset floatsep 0\nset fptop 0\nset fpsep 0\nset fpbot 0\nset dbltextfloatsep 0\nbox a 20 0\nfloat F 1 single p 60 par\nfloat G 1 single ht 90 par\nnewpage\nbox b 10 0\nend\n") PageLimit (codes "report 1\ntry 18 t 20 s 0 0 0 0 z 0 g 100 b 10000 p -10004 c -10004 #\ntry 18 t 10 s 0 0 0 0 z 0 g 1073741823 b 10000 p -10002 c -10002 #\ncall F 18 page 1 column 1 class 1 places p width single high 60 text 20\nenter F class - count 3 0 3 least 19 high 60 room 100 need 80 no places\ngoes F deferred\ntry 0 t 20 s 0 0 0 0 z 0 g 100 b 10000 p 0 c 100000 #\ntry 19 t 20 s 0 0 0 0 z 0 g 100 b 10000 p -10004 c -10004 #\ntry 19 t 10 s 0 0 0 0 z 0 g 1073741823 b 10000 p -10002 c -10002 #\ncall G 19 page 1 column 1 class 1 places ht width single high 90 text 20\nenter G class F count 3 0 3 least 19 high 90 room 100 need 110 no class\ngoes G deferred\ntry 0 t 20 s 0 0 0 0 z 0 g 100 b 10000 p 0 c 100000 #\ntry 0 t 20 s 0 0 0 0 z 0 g 100 b 10000 p 0 c 100000 #\ntry 20 t 20 s 0 65536 0 0 z 0 g 100 b 0 p -10000 c -10000 #\npage 1 one\ncolumn 1 text height 100 natural 20 set stretch fil 80/65536\nbox a 0 20 0\nstart page 2 column 1 height 100\nalone F class - high 60 most 100 yes\njoins G class - high 90 sum 150 most 100 no places\ncompany F floats 1 sum 60 least 50 yes\ngoes F page\nwhy F 18 called 1 waits page because enter places F 0 1\nwhy G 19 called 1 waits deferred because enter places F 0 1 joins places G 0 1\n") (codes "galley_pages: page limit 1\n")
  -- a wide float of release 2014 waits from its place on, without a call; S does not wait for it
  pub release_2014_wide_float_waits : Replies Why (codes "galley 2\nset textheight 100\nset topskip 10\nset maxdepth 0\nset baselineskip 0\nset bottom flush\nset skipfootins 0\nset footsplittop 10\nset intextsep 0\nset textfloatsep 0\nset floatsep 0\nset fptop 0\nset fpsep 0\nset fpbot 0\nset dbltextfloatsep 0\nset release 2014\ntwocolumn\nbox a 20 0\nfloat W 1 double t 30 par\nfloat S 1 single ht 20 par\nnewpage\nbox b 10 0\nnewpage\nbox c 10 0\nend\n") Done (codes "report 1\ntry 17 t 0 s 0 0 0 0 z 0 g 100 b 10000 p 0 c 100000 #\ntry 17 t 10 s 0 0 0 0 z 0 g 100 b 10000 p -10001 c -10001 #\ntry 18 t 0 s 0 0 0 0 z 0 g 100 b 10000 p 0 c 100000 #\ntry 20 t 20 s 0 0 0 0 z 0 g 100 b 10000 p -10004 c -10004 #\nwait W 19 page 1 column 1 class 1 places t width double high 30\ntry 20 t 10 s 0 0 0 0 z 0 g 1073741823 b 10000 p -10002 c -10002 #\ncall S 20 page 1 column 1 class 1 places ht width single high 20 text 20\nenter S class - count 3 0 3 least 19 high 20 room 100 need 40 yes\nhere S class - room 100 need 40 yes\ngoes S here\ntry 18 t 0 s 0 0 0 0 z 0 g 100 b 10000 p 0 c 100000 #\ntry 0 t 20 s 0 0 0 0 z 0 g 100 b 10000 p 0 c 100000 #\ntry 0 t 40 s 0 0 0 0 z 0 g 100 b 10000 p 0 c 100000 #\ntry 21 t 40 s 0 65536 0 0 z 0 g 100 b 0 p -10000 c -10000 #\ntry 23 t 10 s 0 0 0 0 z 0 g 100 b 10000 p 0 c 100000 #\ntry 23 t 10 s 0 65536 0 0 z 0 g 100 b 0 p -10000 c -10000 #\npage 1 two at 0\ncolumn 1 text height 100 natural 40 set stretch fil 60/65536\nbox a 0 20 0\nfloat S 1 here 20 20\ncolumn 2 text height 100 natural 10 set stretch fil 90/65536\nbox b 0 10 0\nstart page 2 wide height 100\nalone W class - high 30 most 100 no places\nwide W class - count 2 0 2 room 69 high 30 yes\ngoes W wide\ntry 25 t 10 s 0 0 0 0 z 0 g 70 b 10000 p 0 c 100000 #\ntry 25 t 10 s 0 65536 0 0 z 0 g 70 b 0 p -10000 c -10000 #\ntry 25 t 0 s 0 0 0 0 z 0 g 70 b 10000 p 0 c 100000 #\ntry 25 t 10 s 0 0 0 0 z 0 g 70 b 10000 p -10001 c -10001 #\ntry 0 t 0 s 0 0 0 0 z 0 g 70 b 10000 p 0 c 100000 #\ntry 0 t 10 s 0 0 0 0 z 0 g 70 b 10000 p 0 c 100000 #\ntry 0 t 10 s 0 65536 0 0 z 0 g 70 b 0 p -10000 c -10000 #\npage 2 two at 30\nfloat W 1 wide 0 30\ncolumn 1 text height 70 natural 10 set stretch fil 60/65536\nbox c 0 10 0\ncolumn 2 text height 70 natural 10 set stretch fil 60/65536\ntry 0 t 0 s 0 0 0 0 z 0 g 100 b 10000 p 0 c 100000 #\ntry 0 t 10 s 0 0 0 0 z 0 g 100 b 10000 p -10001 c -10001 #\nwhy W 19 called 1 landed 2 wide because wait wide W 0 2\nwhy S 20 called 1 landed 1 here\nend pages 2 boxes 3 floats 2 warnings 0\n") []
  -- the sum 51 is above the least 50
  pub float_page_above_the_minimum : Replies Why (codes "galley 1\nset textheight 100\nset topskip 10\nset maxdepth 0\nset baselineskip 0\nset bottom flush\nset skipfootins 0\nset footsplittop 10\nset intextsep 0\nset textfloatsep 0\nset floatsep 0\nset fptop 0\nset fpsep 0\nset fpbot 0\nset dbltextfloatsep 0\nbox a 20 0\nfloat F 1 single p 51 par\nnewpage\nbox b 10 0\nend\n") Done (codes "report 1\ntry 17 t 20 s 0 0 0 0 z 0 g 100 b 10000 p -10004 c -10004 #\ntry 17 t 10 s 0 0 0 0 z 0 g 1073741823 b 10000 p -10002 c -10002 #\ncall F 17 page 1 column 1 class 1 places p width single high 51 text 20\nenter F class - count 3 0 3 least 19 high 51 room 100 need 71 no places\ngoes F deferred\ntry 0 t 20 s 0 0 0 0 z 0 g 100 b 10000 p 0 c 100000 #\ntry 18 t 20 s 0 65536 0 0 z 0 g 100 b 0 p -10000 c -10000 #\npage 1 one\ncolumn 1 text height 100 natural 20 set stretch fil 80/65536\nbox a 0 20 0\nstart page 2 column 1 height 100\nalone F class - high 51 most 100 yes\ncompany F floats 1 sum 51 least 50 yes\ngoes F page\npage 2 one\ncolumn 1 floats height 100 natural 51 set none\nfloat F 1 page 0 51\ntry 20 t 10 s 0 0 0 0 z 0 g 100 b 10000 p 0 c 100000 #\ntry 20 t 10 s 0 65536 0 0 z 0 g 100 b 0 p -10000 c -10000 #\npage 3 one\ncolumn 1 text height 100 natural 10 set stretch fil 90/65536\nbox b 0 10 0\ntry 20 t 0 s 0 0 0 0 z 0 g 100 b 10000 p 0 c 100000 #\ntry 20 t 10 s 0 0 0 0 z 0 g 100 b 10000 p -10001 c -10001 #\nwhy F 17 called 1 landed 2 page because enter places F 0 1\nend pages 3 boxes 2 floats 1 warnings 0\n") []
  -- the sum 50 is not above the least 50
  pub float_page_at_the_minimum : Replies Why (codes "galley 1\nset textheight 100\nset topskip 10\nset maxdepth 0\nset baselineskip 0\nset bottom flush\nset skipfootins 0\nset footsplittop 10\nset intextsep 0\nset textfloatsep 0\nset floatsep 0\nset fptop 0\nset fpsep 0\nset fpbot 0\nset dbltextfloatsep 0\nbox a 20 0\nfloat F 1 single p 50 par\nnewpage\nbox b 10 0\nend\n") Done (codes "report 1\ntry 17 t 20 s 0 0 0 0 z 0 g 100 b 10000 p -10004 c -10004 #\ntry 17 t 10 s 0 0 0 0 z 0 g 1073741823 b 10000 p -10002 c -10002 #\ncall F 17 page 1 column 1 class 1 places p width single high 50 text 20\nenter F class - count 3 0 3 least 19 high 50 room 100 need 70 no places\ngoes F deferred\ntry 0 t 20 s 0 0 0 0 z 0 g 100 b 10000 p 0 c 100000 #\ntry 18 t 20 s 0 65536 0 0 z 0 g 100 b 0 p -10000 c -10000 #\npage 1 one\ncolumn 1 text height 100 natural 20 set stretch fil 80/65536\nbox a 0 20 0\nstart page 2 column 1 height 100\nalone F class - high 50 most 100 yes\ncompany F floats 1 sum 50 least 50 no sum\nenter F class - count 3 0 3 least 19 high 50 room 100 need 69 no places\ngoes F deferred\ntry 20 t 10 s 0 0 0 0 z 0 g 100 b 10000 p 0 c 100000 #\ntry 20 t 10 s 0 65536 0 0 z 0 g 100 b 0 p -10000 c -10000 #\npage 2 one\ncolumn 1 text height 100 natural 10 set stretch fil 90/65536\nbox b 0 10 0\nstart page 3 column 1 height 100\nalone F class - high 50 most 100 yes\ncompany F floats 1 sum 50 least 50 no sum\nenter F class - count 3 0 3 least 19 high 50 room 100 need 69 no places\ngoes F deferred\ntry 20 t 0 s 0 0 0 0 z 0 g 100 b 10000 p 0 c 100000 #\ntry 20 t 10 s 0 0 0 0 z 0 g 100 b 10000 p -10001 c -10001 #\nclear page 3 column 1 height 100\nalone F class - high 50 most 100 yes\ncompany F floats 1 sum 50 least 50 yes\ngoes F page\npage 3 one\ncolumn 1 floats height 100 natural 50 set none\nfloat F 1 page 0 50\nwhy F 17 called 1 landed 3 page because enter places F 0 1 company sum F 1 1\nend pages 3 boxes 2 floats 1 warnings 0\n") []
  -- S waits for W, which is double
  pub double_float_keeps_class_order : Replies Why (codes "galley 1\nset textheight 100\nset topskip 10\nset maxdepth 0\nset baselineskip 0\nset bottom flush\nset skipfootins 0\nset footsplittop 10\nset intextsep 0\nset textfloatsep 0\nset floatsep 0\nset fptop 0\nset fpsep 0\nset fpbot 0\nset dbltextfloatsep 0\ntwocolumn\nbox a 20 0\nfloat W 1 double t 30 par\nfloat S 1 single ht 20 par\nnewpage\nbox b 10 0\nnewpage\nbox c 10 0\nend\n") Done (codes "report 1\ntry 16 t 0 s 0 0 0 0 z 0 g 100 b 10000 p 0 c 100000 #\ntry 16 t 10 s 0 0 0 0 z 0 g 100 b 10000 p -10001 c -10001 #\ntry 17 t 0 s 0 0 0 0 z 0 g 100 b 10000 p 0 c 100000 #\ntry 18 t 20 s 0 0 0 0 z 0 g 100 b 10000 p -10004 c -10004 #\ntry 18 t 10 s 0 0 0 0 z 0 g 1073741823 b 10000 p -10002 c -10002 #\ncall W 18 page 1 column 1 class 1 places t width double high 30 text 20\nenter W class - count 3 0 3 least 19 high 30 room 100 need 50 no wide\ngoes W deferred\ntry 17 t 0 s 0 0 0 0 z 0 g 100 b 10000 p 0 c 100000 #\ntry 0 t 20 s 0 0 0 0 z 0 g 100 b 10000 p 0 c 100000 #\ntry 19 t 20 s 0 0 0 0 z 0 g 100 b 10000 p -10004 c -10004 #\ntry 19 t 10 s 0 0 0 0 z 0 g 1073741823 b 10000 p -10002 c -10002 #\ncall S 19 page 1 column 1 class 1 places ht width single high 20 text 20\nenter S class W count 3 0 3 least 19 high 20 room 100 need 40 no class\ngoes S deferred\ntry 17 t 0 s 0 0 0 0 z 0 g 100 b 10000 p 0 c 100000 #\ntry 0 t 20 s 0 0 0 0 z 0 g 100 b 10000 p 0 c 100000 #\ntry 0 t 20 s 0 0 0 0 z 0 g 100 b 10000 p 0 c 100000 #\ntry 20 t 20 s 0 65536 0 0 z 0 g 100 b 0 p -10000 c -10000 #\nstart page 1 column 2 height 100\nalone S class W high 20 most 100 no places\nenter S class W count 3 0 3 least 19 high 20 room 100 need 39 no class\ngoes S deferred\ntry 22 t 10 s 0 0 0 0 z 0 g 100 b 10000 p 0 c 100000 #\ntry 22 t 10 s 0 65536 0 0 z 0 g 100 b 0 p -10000 c -10000 #\npage 1 two at 0\ncolumn 1 text height 100 natural 20 set stretch fil 80/65536\nbox a 0 20 0\ncolumn 2 text height 100 natural 10 set stretch fil 90/65536\nbox b 0 10 0\nstart page 2 wide height 100\nalone W class - high 30 most 100 no places\nwide W class - count 2 0 2 room 69 high 30 yes\ngoes W wide\nstart page 2 column 1 height 70\nalone S class - high 20 most 70 no places\nenter S class - count 3 0 3 least 13 high 20 room 70 need 33 yes\ntop S class - count 2 0 2 room 70 need 33 share 48 high 20 yes\ngoes S top\ntry 24 t 10 s 0 0 0 0 z 0 g 50 b 10000 p 0 c 100000 #\ntry 24 t 10 s 0 65536 0 0 z 0 g 50 b 0 p -10000 c -10000 #\ntry 24 t 0 s 0 0 0 0 z 0 g 70 b 10000 p 0 c 100000 #\ntry 24 t 10 s 0 0 0 0 z 0 g 70 b 10000 p -10001 c -10001 #\ntry 0 t 0 s 0 0 0 0 z 0 g 70 b 10000 p 0 c 100000 #\ntry 0 t 10 s 0 0 0 0 z 0 g 70 b 10000 p 0 c 100000 #\ntry 0 t 10 s 0 65536 0 0 z 0 g 70 b 0 p -10000 c -10000 #\npage 2 two at 30\nfloat W 1 wide 0 30\ncolumn 1 text height 70 natural 30 set stretch fil 40/65536\nfloat S 1 top 0 20\nbox c 20 10 0\ncolumn 2 text height 70 natural 10 set stretch fil 60/65536\ntry 0 t 0 s 0 0 0 0 z 0 g 100 b 10000 p 0 c 100000 #\ntry 0 t 10 s 0 0 0 0 z 0 g 100 b 10000 p -10001 c -10001 #\nwhy W 18 called 1 landed 2 wide because enter wide W 0 2\nwhy S 19 called 1 landed 2 top because enter wide W 0 2\nend pages 2 boxes 3 floats 2 warnings 0\n") []
  -- a clear at the first and at the second column
  pub clear_in_two_columns : Replies Why (codes "galley 1\nset textheight 100\nset topskip 10\nset maxdepth 0\nset baselineskip 0\nset bottom flush\nset skipfootins 0\nset footsplittop 10\nset intextsep 0\nset textfloatsep 0\nset floatsep 0\nset fptop 0\nset fpsep 0\nset fpbot 0\nset dbltextfloatsep 0\ntwocolumn\nbox a 10 0\nfloat W 1 double t 30 par\nnewpage\nbox b 10 0\nnewpage\nbox c 10 0\nnewpage\nfloat S 2 single p 80 par\nclearpage\nbox e 10 0\nend\n") Done (codes "report 1\ntry 16 t 0 s 0 0 0 0 z 0 g 100 b 10000 p 0 c 100000 #\ntry 16 t 10 s 0 0 0 0 z 0 g 100 b 10000 p -10001 c -10001 #\ntry 17 t 0 s 0 0 0 0 z 0 g 100 b 10000 p 0 c 100000 #\ntry 18 t 10 s 0 0 0 0 z 0 g 100 b 10000 p -10004 c -10004 #\ntry 18 t 10 s 0 0 0 0 z 0 g 1073741823 b 10000 p -10002 c -10002 #\ncall W 18 page 1 column 1 class 1 places t width double high 30 text 10\nenter W class - count 3 0 3 least 19 high 30 room 100 need 49 no wide\ngoes W deferred\ntry 17 t 0 s 0 0 0 0 z 0 g 100 b 10000 p 0 c 100000 #\ntry 0 t 10 s 0 0 0 0 z 0 g 100 b 10000 p 0 c 100000 #\ntry 19 t 10 s 0 65536 0 0 z 0 g 100 b 0 p -10000 c -10000 #\ntry 21 t 10 s 0 0 0 0 z 0 g 100 b 10000 p 0 c 100000 #\ntry 21 t 10 s 0 65536 0 0 z 0 g 100 b 0 p -10000 c -10000 #\npage 1 two at 0\ncolumn 1 text height 100 natural 10 set stretch fil 90/65536\nbox a 0 10 0\ncolumn 2 text height 100 natural 10 set stretch fil 90/65536\nbox b 0 10 0\nstart page 2 wide height 100\nalone W class - high 30 most 100 no places\nwide W class - count 2 0 2 room 69 high 30 yes\ngoes W wide\ntry 23 t 10 s 0 0 0 0 z 0 g 70 b 10000 p 0 c 100000 #\ntry 23 t 10 s 0 65536 0 0 z 0 g 70 b 0 p -10000 c -10000 #\ntry 24 t 10 s 0 0 0 0 z 0 g 70 b 10000 p -10002 c -10002 #\ncall S 24 page 2 column 2 class 2 places p width single high 80 text 0\nenter S class - count 3 0 3 least 13 high 80 room 70 need 93 no places\ngoes S deferred\ntry 25 t 0 s 0 0 0 0 z 0 g 70 b 10000 p 0 c 100000 #\ntry 25 t 10 s 0 0 0 0 z 0 g 70 b 10000 p -10001 c -10001 #\nclear page 2 column 2 height 70\nalone S class - high 80 most 70 no tall\ntry 0 t 0 s 0 0 0 0 z 0 g 70 b 10000 p 0 c 100000 #\ntry 0 t 10 s 0 0 0 0 z 0 g 70 b 10000 p 0 c 100000 #\ntry 0 t 10 s 0 65536 0 0 z 0 g 70 b 0 p -10000 c -10000 #\npage 2 two at 30\nfloat W 1 wide 0 30\ncolumn 1 text height 70 natural 10 set stretch fil 60/65536\nbox c 0 10 0\ncolumn 2 text height 70 natural 10 set stretch fil 60/65536\nstart page 3 column 1 height 100\nalone S class - high 80 most 100 yes\ncompany S floats 1 sum 80 least 50 yes\ngoes S page\ntry 0 t 0 s 0 0 0 0 z 0 g 100 b 10000 p 0 c 100000 #\ntry 0 t 10 s 0 0 0 0 z 0 g 100 b 10000 p -10001 c -10001 #\ntry 0 t 0 s 0 0 0 0 z 0 g 100 b 10000 p 0 c 100000 #\ntry 0 t 10 s 0 0 0 0 z 0 g 100 b 10000 p 0 c 100000 #\ntry 0 t 10 s 0 65536 0 0 z 0 g 100 b 0 p -10000 c -10000 #\npage 3 two at 0\ncolumn 1 floats height 100 natural 80 set none\nfloat S 2 page 0 80\ncolumn 2 text height 100 natural 10 set stretch fil 90/65536\ntry 0 t 0 s 0 0 0 0 z 0 g 100 b 10000 p 0 c 100000 #\ntry 0 t 10 s 0 0 0 0 z 0 g 100 b 10000 p -10001 c -10001 #\ntry 0 t 0 s 0 0 0 0 z 0 g 100 b 10000 p 0 c 100000 #\ntry 0 t 10 s 0 0 0 0 z 0 g 100 b 10000 p -10001 c -10001 #\ntry 26 t 0 s 0 0 0 0 z 0 g 100 b 10000 p 0 c 100000 #\ntry 27 t 10 s 0 0 0 0 z 0 g 100 b 10000 p 0 c 100000 #\ntry 27 t 10 s 0 65536 0 0 z 0 g 100 b 0 p -10000 c -10000 #\ntry 27 t 0 s 0 0 0 0 z 0 g 100 b 10000 p 0 c 100000 #\ntry 27 t 10 s 0 0 0 0 z 0 g 100 b 10000 p -10001 c -10001 #\ntry 0 t 0 s 0 0 0 0 z 0 g 100 b 10000 p 0 c 100000 #\ntry 0 t 10 s 0 0 0 0 z 0 g 100 b 10000 p 0 c 100000 #\ntry 0 t 10 s 0 65536 0 0 z 0 g 100 b 0 p -10000 c -10000 #\npage 4 two at 0\ncolumn 1 text height 100 natural 10 set stretch fil 90/65536\nbox e 0 10 0\ncolumn 2 text height 100 natural 10 set stretch fil 90/65536\ntry 0 t 0 s 0 0 0 0 z 0 g 100 b 10000 p 0 c 100000 #\ntry 0 t 10 s 0 0 0 0 z 0 g 100 b 10000 p -10001 c -10001 #\nwhy W 18 called 1 landed 2 wide because enter wide W 0 2\nwhy S 24 called 2 landed 3 page because alone tall S 10 1\nend pages 4 boxes 4 floats 2 warnings 0\n") []
  -- the summary names the float that blocks its class
  pub pool_full_at_a_float : Replies Why (codes "galley 1\nset textheight 100\nset topskip 10\nset maxdepth 0\nset baselineskip 0\nset bottom flush\nset skipfootins 0\nset footsplittop 10\nset intextsep 0\nset textfloatsep 0\nset floatsep 0\nset fptop 0\nset fpsep 0\nset fpbot 0\nset dbltextfloatsep 0\nset pool 2\nbox a 60 0\nfloat F 1 single b 50 par\nfloat G 1 single b 50 par\nnewpage\nbox b 10 0\nfloat H 1 single b 50 par\nend\n") PoolFull (codes "report 1\ntry 18 t 60 s 0 0 0 0 z 0 g 100 b 10000 p -10004 c -10004 #\ntry 18 t 10 s 0 0 0 0 z 0 g 1073741823 b 10000 p -10002 c -10002 #\ncall F 18 page 1 column 1 class 1 places b width single high 50 text 60\nenter F class - count 3 0 3 least 19 high 50 room 100 need 110 no room\ngoes F deferred\ntry 0 t 60 s 0 0 0 0 z 0 g 100 b 10000 p 0 c 100000 #\ntry 19 t 60 s 0 0 0 0 z 0 g 100 b 10000 p -10004 c -10004 #\ntry 19 t 10 s 0 0 0 0 z 0 g 1073741823 b 10000 p -10002 c -10002 #\ncall G 19 page 1 column 1 class 1 places b width single high 50 text 60\nenter G class F count 3 0 3 least 19 high 50 room 100 need 110 no class\ngoes G deferred\ntry 0 t 60 s 0 0 0 0 z 0 g 100 b 10000 p 0 c 100000 #\ntry 0 t 60 s 0 0 0 0 z 0 g 100 b 10000 p 0 c 100000 #\ntry 20 t 60 s 0 65536 0 0 z 0 g 100 b 0 p -10000 c -10000 #\npage 1 one\ncolumn 1 text height 100 natural 60 set stretch fil 40/65536\nbox a 0 60 0\nstart page 2 column 1 height 100\nalone F class - high 50 most 100 no places\nalone G class F high 50 most 100 no places\nenter F class - count 3 0 3 least 19 high 50 room 100 need 69 yes\ntop F class - count 2 0 2 room 100 need 69 share 69 high 50 no places\nbottom F count 1 0 1 room 100 need 69 share 30 high 50 no share\ngoes F deferred\nenter G class F count 3 0 3 least 19 high 50 room 100 need 69 no class\ngoes G deferred\nwhy F 18 called 1 waits deferred because enter room F 11 1 bottom share F 21 0\nwhy G 19 called 1 waits deferred because enter room F 11 1 bottom share F 21 0\n") (codes "galley_pages: line 22: float pool full at 2\n")
