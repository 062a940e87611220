-- Worked rows: inputs with their statuses, reports and lines on err.
use Rattle.std.specs.Prelude.{◌≡◌, ℕ, ◌<◌, List, [], length, codes}
use Rattle.tb_galley.specs.Grammar.{input_limit}
use Rattle.tb_top.specs.declared.status.Status.{Status}
use Rattle.tb_top.specs.declared.status.Status.TheVariants.{Done, Syntax, Range, DeadCycles, PageLimit, NodeLimit}
use Rattle.tb_words.specs.declared.Mode.{Mode}
use Rattle.tb_words.specs.declared.Mode.TheVariants.{Report, Trace, Print}
use Rattle.tb_top.specs.Answer.{reply_to}

-- in the mode the input has this status, this text and this line on err
pub record Replies (mode : Mode) (input : List ℕ) (answer : Status) (text line : List ℕ) : Type 0 where
  pub answered : (reply_to mode input).answer ≡ answer
  pub written : (reply_to mode input).written ≡ text
  pub told : (reply_to mode input).line ≡ line

-- each input with what the definitions give
pub record WorkedRows : Type 0 where
  -- three boxes and two stretchable glues fill one page
  pub three_boxes_fill_a_page : Replies Report (codes "galley 1\nset textheight 30\nset topskip 10\nset maxdepth 0\nbox a 10 0\nglue 0 plus 5\nbox b 10 0\nglue 0 plus 5\nbox c 10 0\nend\n") Done (codes "report 1\npage 1 one\ncolumn 1 text height 30 natural 30 set none\nbox a 0 10 0\nbox b 10 10 0\nbox c 20 10 0\nend pages 1 boxes 3 floats 0 warnings 0\n") []
  -- the same with a carriage return before each line feed
  pub carriage_returns : Replies Report (codes "galley 1\r\nset textheight 30\r\nset topskip 10\r\nset maxdepth 0\r\nbox a 10 0\r\nglue 0 plus 5\r\nbox b 10 0\r\nglue 0 plus 5\r\nbox c 10 0\r\nend\r\n") Done (codes "report 1\npage 1 one\ncolumn 1 text height 30 natural 30 set none\nbox a 0 10 0\nbox b 10 10 0\nbox c 20 10 0\nend pages 1 boxes 3 floats 0 warnings 0\n") []
  -- nothing is shipped
  pub empty_galley : Replies Report (codes "galley 1\nend\n") Done (codes "report 1\nend pages 0 boxes 0 floats 0 warnings 0\n") []
  -- of two breaks of equal cost the later one is taken
  pub later_of_equal_costs : Replies Report (codes "galley 1\nset textheight 30\nset topskip 10\nset maxdepth 0\nset baselineskip 0\nset bottom flush\nset skipfootins 0\nset footsplittop 10\nset intextsep 0\nset textfloatsep 0\nset floatsep 0\nset fptop 0\nset fpsep 0\nset fpbot 0\nset dbltextfloatsep 0\nbox a 12 0\nglue 0\nbox b 12 0\nglue 0\nbox c 12 0\nend\n") Done (codes "report 1\npage 1 one\ncolumn 1 text height 30 natural 24 set none\nbox a 0 12 0\nbox b 12 12 0\npage 2 one\ncolumn 1 text height 30 natural 12 set stretch fil 18/65536\nbox c 0 12 0\nend pages 2 boxes 3 floats 0 warnings 0\n") []
  -- the same with fewer parameters set
  pub bare_prelude : Replies Report (codes "galley 1\nset textheight 30\nset topskip 10\nset maxdepth 0\nset bottom flush\nbox a 12 0\nglue 0\nbox b 12 0\nglue 0\nbox c 12 0\nend\n") Done (codes "report 1\npage 1 one\ncolumn 1 text height 30 natural 24 set none\nbox a 0 12 0\nbox b 12 12 0\npage 2 one\ncolumn 1 text height 30 natural 12 set stretch fil 18/65536\nbox c 0 12 0\nend pages 2 boxes 3 floats 0 warnings 0\n") []
  -- a box that is too high has a page of its own
  pub overfull_box : Replies Report (codes "galley 1\nset textheight 30\nset topskip 10\nset maxdepth 0\nset baselineskip 0\nset bottom flush\nset skipfootins 0\nset footsplittop 10\nset intextsep 0\nset textfloatsep 0\nset floatsep 0\nset fptop 0\nset fpsep 0\nset fpbot 0\nset dbltextfloatsep 0\nbox a 50 0\nglue 0\nbox b 10 0\nend\n") Done (codes "report 1\npage 1 one\ncolumn 1 text height 30 natural 50 set none overfull 20\nbox a 0 50 0\npage 2 one\ncolumn 1 text height 30 natural 10 set stretch fil 20/65536\nbox b 0 10 0\nend pages 2 boxes 2 floats 0 warnings 0\n") []
  -- a penalty of 10000 is no break
  pub forbidden_break : Replies Report (codes "galley 1\nset textheight 30\nset topskip 10\nset maxdepth 0\nset baselineskip 0\nset bottom flush\nset skipfootins 0\nset footsplittop 10\nset intextsep 0\nset textfloatsep 0\nset floatsep 0\nset fptop 0\nset fpsep 0\nset fpbot 0\nset dbltextfloatsep 0\nbox a 20 0\npenalty 10000\nglue 0\nbox b 20 0\nend\n") Done (codes "report 1\npage 1 one\ncolumn 1 text height 30 natural 40 set none overfull 10\nbox a 0 20 0\nbox b 20 20 0\nend pages 1 boxes 2 floats 0 warnings 0\n") []
  -- a kern before glue is the break
  pub kern_before_glue : Replies Report (codes "galley 1\nset textheight 30\nset topskip 10\nset maxdepth 0\nset baselineskip 0\nset bottom flush\nset skipfootins 0\nset footsplittop 10\nset intextsep 0\nset textfloatsep 0\nset floatsep 0\nset fptop 0\nset fpsep 0\nset fpbot 0\nset dbltextfloatsep 0\nbox a 20 0\nkern 0\nglue 0\nbox b 20 0\nend\n") Done (codes "report 1\npage 1 one\ncolumn 1 text height 30 natural 20 set none\nbox a 0 20 0\npage 2 one\ncolumn 1 text height 30 natural 20 set stretch fil 10/65536\nbox b 0 20 0\nend pages 2 boxes 2 floats 0 warnings 0\n") []
  -- a kern before a box is no break
  pub kern_without_glue : Replies Report (codes "galley 1\nset textheight 30\nset topskip 10\nset maxdepth 0\nset baselineskip 0\nset bottom flush\nset skipfootins 0\nset footsplittop 10\nset intextsep 0\nset textfloatsep 0\nset floatsep 0\nset fptop 0\nset fpsep 0\nset fpbot 0\nset dbltextfloatsep 0\nbox a 20 0\nkern 0\nbox b 20 0\nend\n") Done (codes "report 1\npage 1 one\ncolumn 1 text height 30 natural 40 set none overfull 10\nbox a 0 20 0\nbox b 20 20 0\nend pages 1 boxes 2 floats 0 warnings 0\n") []
  -- a note comes above the first box
  pub note_before_the_first_box : Replies Report (codes "galley 1\nset textheight 30\nset topskip 10\nset maxdepth 0\nset baselineskip 0\nset bottom flush\nset skipfootins 0\nset footsplittop 10\nset intextsep 0\nset textfloatsep 0\nset floatsep 0\nset fptop 0\nset fpsep 0\nset fpbot 0\nset dbltextfloatsep 0\nnote n\nbox a 10 0\nend\n") Done (codes "report 1\npage 1 one\ncolumn 1 text height 30 natural 10 set stretch fil 20/65536\nnote n 0\nbox a 0 10 0\nend pages 1 boxes 1 floats 0 warnings 0\n") []
  -- the top skip glue alone fills the page
  pub topskip_above_textheight : Replies Report (codes "galley 1\nset textheight 30\nset topskip 10\nset maxdepth 0\nset baselineskip 0\nset bottom flush\nset skipfootins 0\nset footsplittop 10\nset intextsep 0\nset textfloatsep 0\nset floatsep 0\nset fptop 0\nset fpsep 0\nset fpbot 0\nset dbltextfloatsep 0\nset topskip 40\nbox a 10 0\nend\n") Done (codes "report 1\npage 1 one\ncolumn 1 text height 30 natural 40 set none overfull 10\nbox a 30 10 0\npage 2 one\ncolumn 1 text height 30 natural 0 set none\nend pages 2 boxes 1 floats 0 warnings 0\n") []
  -- a box line lacks its depth
  pub box_without_depth : Replies Report (codes "galley 1\nbox a 10\nend\n") Syntax [] (codes "galley_pages: line 2 field 4: MissingField\n")
  -- two clears without a page
  pub clears_without_a_page : Replies Report (codes "galley 1\nset textheight 30\nset topskip 10\nset maxdepth 0\nset baselineskip 0\nset bottom flush\nset skipfootins 0\nset footsplittop 10\nset intextsep 0\nset textfloatsep 0\nset floatsep 0\nset fptop 0\nset fpsep 0\nset fpbot 0\nset dbltextfloatsep 0\nset maxdeadcycles 1\nclearpage\nend\n") DeadCycles (codes "report 1\n") (codes "galley_pages: dead cycles 1\n")
  -- a note after the last page is left
  pub note_left : Replies Report (codes "galley 1\nset textheight 30\nset topskip 10\nset maxdepth 0\nset baselineskip 0\nset bottom flush\nset skipfootins 0\nset footsplittop 10\nset intextsep 0\nset textfloatsep 0\nset floatsep 0\nset fptop 0\nset fpsep 0\nset fpbot 0\nset dbltextfloatsep 0\nbox a 10 0\nnewpage\nnote n\nend\n") Done (codes "report 1\npage 1 one\ncolumn 1 text height 30 natural 10 set stretch fil 20/65536\nbox a 0 10 0\nleft note n\nend pages 1 boxes 1 floats 0 warnings 0\n") []
  -- a rule and a mark
  pub rule_and_mark : Replies Report (codes "galley 1\nset textheight 30\nset topskip 10\nset maxdepth 0\nset baselineskip 0\nset bottom flush\nset skipfootins 0\nset footsplittop 10\nset intextsep 0\nset textfloatsep 0\nset floatsep 0\nset fptop 0\nset fpsep 0\nset fpbot 0\nset dbltextfloatsep 0\nrule r 10 0\nmark m\nend\n") Done (codes "report 1\npage 1 one\ncolumn 1 text height 30 natural 10 set stretch fil 20/65536\nrule r 0 10 0\nmark m 10\nend pages 1 boxes 1 floats 0 warnings 0\n") []
  -- the input ends without `end`
  pub without_end : Replies Report (codes "galley 1\nbox a 1 0\n") Syntax [] (codes "galley_pages: line 3 field 0: NoEnd\n")
  -- a height past the greatest dimension
  pub too_large : Replies Report (codes "galley 1\nbox a 1073741824 0\nend\n") Range [] (codes "galley_pages: line 2 field 3: Dimension\n")
  -- a second page when one is allowed
  pub page_limit : Replies Report (codes "galley 1\nset textheight 30\nset topskip 10\nset maxdepth 0\nset baselineskip 0\nset bottom flush\nset skipfootins 0\nset footsplittop 10\nset intextsep 0\nset textfloatsep 0\nset floatsep 0\nset fptop 0\nset fpsep 0\nset fpbot 0\nset dbltextfloatsep 0\nset maxpages 1\nbox a 12 0\nglue 0\nbox b 12 0\nglue 0\nbox c 12 0\nend\n") PageLimit (codes "report 1\npage 1 one\ncolumn 1 text height 30 natural 24 set none\nbox a 0 12 0\nbox b 12 12 0\n") (codes "galley_pages: page limit 1\n")
  -- more nodes than are allowed
  pub node_limit : Replies Report (codes "galley 1\nset textheight 30\nset topskip 10\nset maxdepth 0\nset baselineskip 0\nset bottom flush\nset skipfootins 0\nset footsplittop 10\nset intextsep 0\nset textfloatsep 0\nset floatsep 0\nset fptop 0\nset fpsep 0\nset fpbot 0\nset dbltextfloatsep 0\nset maxnodes 100\nglue 0\nglue 0\nglue 0\nglue 0\nglue 0\nglue 0\nglue 0\nglue 0\nglue 0\nglue 0\nglue 0\nglue 0\nglue 0\nglue 0\nglue 0\nglue 0\nglue 0\nglue 0\nglue 0\nglue 0\nglue 0\nglue 0\nglue 0\nglue 0\nglue 0\nglue 0\nglue 0\nglue 0\nglue 0\nglue 0\nglue 0\nglue 0\nglue 0\nglue 0\nglue 0\nglue 0\nglue 0\nglue 0\nglue 0\nglue 0\nglue 0\nglue 0\nglue 0\nglue 0\nglue 0\nglue 0\nglue 0\nglue 0\nglue 0\nglue 0\nglue 0\nglue 0\nglue 0\nglue 0\nglue 0\nglue 0\nglue 0\nglue 0\nglue 0\nglue 0\nglue 0\nglue 0\nglue 0\nglue 0\nglue 0\nglue 0\nglue 0\nglue 0\nglue 0\nglue 0\nglue 0\nglue 0\nglue 0\nglue 0\nglue 0\nglue 0\nglue 0\nglue 0\nglue 0\nglue 0\nglue 0\nglue 0\nglue 0\nglue 0\nglue 0\nglue 0\nglue 0\nglue 0\nglue 0\nglue 0\nglue 0\nglue 0\nglue 0\nglue 0\nglue 0\nglue 0\nglue 0\nglue 0\nglue 0\nglue 0\nglue 0\nend\n") NodeLimit (codes "report 1\n") (codes "galley_pages: node limit at 106\n")
  -- a footnote fits on its page
  pub footnote_fits : Replies Report (codes "galley 1\nset textheight 30\nset topskip 10\nset maxdepth 0\nset baselineskip 0\nset bottom flush\nset skipfootins 0\nset footsplittop 10\nset intextsep 0\nset textfloatsep 0\nset floatsep 0\nset fptop 0\nset fpsep 0\nset fpbot 0\nset dbltextfloatsep 0\nbox a 10 0\nfoot\nbox f 20 0\nendfoot\nend\n") Done (codes "report 1\npage 1 one\ncolumn 1 text height 30 natural 30 set none\nbox a 0 10 0\nfootrule -196598 26214 0\nbox f 10 20 0\nend pages 1 boxes 2 floats 0 warnings 0\n") []
  -- a footnote is split, and its rest goes to the next page
  pub footnote_splits : Replies Report (codes "galley 1\nset textheight 30\nset topskip 10\nset maxdepth 0\nset baselineskip 0\nset bottom flush\nset skipfootins 0\nset footsplittop 10\nset intextsep 0\nset textfloatsep 0\nset floatsep 0\nset fptop 0\nset fpsep 0\nset fpbot 0\nset dbltextfloatsep 0\nbox a 10 0\nfoot\nbox f 10 0\nglue 0\nbox g 11 0\nendfoot\nend\n") Done (codes "report 1\npage 1 one\ncolumn 1 text height 30 natural 20 set stretch fil 10/65536\nbox a 0 10 0\nfootrule -196588 26214 0\nbox f 20 10 0\npage 2 one\ncolumn 1 text height 30 natural 21 set stretch fil 9/65536\nfootrule -196589 26214 0\nbox g 19 11 0\nend pages 2 boxes 3 floats 0 warnings 0\n") []
  -- a second footnote is too much for the page, so the break goes back
  pub second_footnote_sends_the_break_back : Replies Report (codes "galley 1\nset textheight 45\nset topskip 10\nset maxdepth 0\nset baselineskip 0\nset bottom flush\nset skipfootins 0\nset footsplittop 10\nset intextsep 0\nset textfloatsep 0\nset floatsep 0\nset fptop 0\nset fpsep 0\nset fpbot 0\nset dbltextfloatsep 0\nbox a 10 0\nglue 0\nbox b 10 0\nfoot\nbox f 15 0\nglue 0\nbox g 15 0\nendfoot\nfoot\nbox k 5 0\nendfoot\nend\n") Done (codes "report 1\npage 1 one\ncolumn 1 text height 45 natural 10 set none\nbox a 0 10 0\npage 2 one\ncolumn 1 text height 45 natural 45 set none\nbox b 0 10 0\nfootrule -196598 26214 0\nbox f 10 15 0\nbox g 25 15 0\nbox k 40 5 0\nend pages 2 boxes 5 floats 0 warnings 0\n") []
  -- a footnote over the limit is split at its end, and stays whole
  pub footnote_split_at_its_end : Replies Report (codes "galley 1\nset textheight 30\nset topskip 10\nset maxdepth 0\nset baselineskip 0\nset bottom flush\nset skipfootins 0\nset footsplittop 10\nset intextsep 0\nset textfloatsep 0\nset floatsep 0\nset fptop 0\nset fpsep 0\nset fpbot 0\nset dbltextfloatsep 0\nset footlimit 5\nbox a 10 0\nfoot\nbox f 8 0\nendfoot\nend\n") Done (codes "report 1\npage 1 one\ncolumn 1 text height 30 natural 18 set stretch fil 12/65536\nbox a 0 10 0\nfootrule -196586 26214 0\nbox f 22 8 0\nend pages 1 boxes 2 floats 0 warnings 0\n") []
  -- a clear puts out the page that has a footnote
  pub clear_with_a_footnote_box : Replies Report (codes "galley 1\nset textheight 30\nset topskip 10\nset maxdepth 0\nset baselineskip 0\nset bottom flush\nset skipfootins 0\nset footsplittop 10\nset intextsep 0\nset textfloatsep 0\nset floatsep 0\nset fptop 0\nset fpsep 0\nset fpbot 0\nset dbltextfloatsep 0\nbox a 10 0\nnewpage\nfoot\nbox f 10 0\nendfoot\nend\n") Done (codes "report 1\npage 1 one\ncolumn 1 text height 30 natural 10 set stretch fil 20/65536\nbox a 0 10 0\npage 2 one\ncolumn 1 text height 30 natural 20 set stretch fil 10/65536\nfootrule -196588 26214 0\nbox f 20 10 0\nend pages 2 boxes 2 floats 0 warnings 0\n") []
  -- a footnote is not closed
  pub unclosed_foot : Replies Report (codes "galley 1\nfoot\nbox f 1 0\n") Syntax [] (codes "galley_pages: line 4 field 0: UnclosedFoot\n")
  -- more bytes than a galley may have
  pub too_long : (input : List ℕ) → input_limit < length input → Replies Report input Range [] (codes "galley_pages: line 0 field 0: InputSize\n")
  -- three boxes and two stretchable glues, with the places that were tried
  pub three_boxes_traced : Replies Trace (codes "galley 1\nset textheight 30\nset topskip 10\nset maxdepth 0\nbox a 10 0\nglue 0 plus 5\nbox b 10 0\nglue 0 plus 5\nbox c 10 0\nend\n") Done (codes "report 1\ntry 6 t 10 s 0 0 0 0 z 0 g 30 b 10000 p 0 c 100000 #\ntry 8 t 20 s 5 0 0 0 z 0 g 30 b 800 p 0 c 800 #\ntry 10 t 30 s 10 0 0 0 z 0 g 30 b 0 p 0 c 0 #\ntry 10 t 30 s 10 65536 0 0 z 0 g 30 b 0 p -10000 c -10000 #\npage 1 one\ncolumn 1 text height 30 natural 30 set none\nbox a 0 10 0\nbox b 10 10 0\nbox c 20 10 0\ntry 10 t 0 s 0 0 0 0 z 0 g 30 b 10000 p 0 c 100000 #\ntry 10 t 10 s 0 0 0 0 z 0 g 30 b 10000 p -10001 c -10001 #\nend pages 1 boxes 3 floats 0 warnings 0\n") []
  -- a note comes above the first box, with the places that were tried
  pub note_traced : Replies Trace (codes "galley 1\nset textheight 30\nset topskip 10\nset maxdepth 0\nset baselineskip 0\nset bottom flush\nset skipfootins 0\nset footsplittop 10\nset intextsep 0\nset textfloatsep 0\nset floatsep 0\nset fptop 0\nset fpsep 0\nset fpbot 0\nset dbltextfloatsep 0\nnote n\nbox a 10 0\nend\n") Done (codes "report 1\ntry 17 t 0 s 0 0 0 0 z 0 g 30 b 10000 p 0 c 100000 #\ntry 18 t 10 s 0 0 0 0 z 0 g 30 b 10000 p 0 c 100000 #\ntry 18 t 10 s 0 65536 0 0 z 0 g 30 b 0 p -10000 c -10000 #\npage 1 one\ncolumn 1 text height 30 natural 10 set stretch fil 20/65536\nnote n 0\nbox a 0 10 0\ntry 18 t 0 s 0 0 0 0 z 0 g 30 b 10000 p 0 c 100000 #\ntry 18 t 10 s 0 0 0 0 z 0 g 30 b 10000 p -10001 c -10001 #\nend pages 1 boxes 1 floats 0 warnings 0\n") []
  -- of two breaks of equal cost each is the best so far
  pub equal_costs_traced : Replies Trace (codes "galley 1\nset textheight 30\nset topskip 10\nset maxdepth 0\nset baselineskip 0\nset bottom flush\nset skipfootins 0\nset footsplittop 10\nset intextsep 0\nset textfloatsep 0\nset floatsep 0\nset fptop 0\nset fpsep 0\nset fpbot 0\nset dbltextfloatsep 0\nbox a 12 0\nglue 0\nbox b 12 0\nglue 0\nbox c 12 0\nend\n") Done (codes "report 1\ntry 17 t 12 s 0 0 0 0 z 0 g 30 b 10000 p 0 c 100000 #\ntry 19 t 24 s 0 0 0 0 z 0 g 30 b 10000 p 0 c 100000 #\ntry 21 t 36 s 0 0 0 0 z 0 g 30 b * p 0 c *\npage 1 one\ncolumn 1 text height 30 natural 24 set none\nbox a 0 12 0\nbox b 12 12 0\ntry 21 t 12 s 0 0 0 0 z 0 g 30 b 10000 p 0 c 100000 #\ntry 21 t 12 s 0 65536 0 0 z 0 g 30 b 0 p -10000 c -10000 #\npage 2 one\ncolumn 1 text height 30 natural 12 set stretch fil 18/65536\nbox c 0 12 0\ntry 21 t 0 s 0 0 0 0 z 0 g 30 b 10000 p 0 c 100000 #\ntry 21 t 10 s 0 0 0 0 z 0 g 30 b 10000 p -10001 c -10001 #\nend pages 2 boxes 3 floats 0 warnings 0\n") []
  -- the canonical text of a galley without items
  pub canonical_text : Replies Print (codes "galley 1\nend\n") Done (codes "galley 1\nset textheight 36044800\nset topskip 655360\nset maxdepth 327680\nset baselineskip 786432\nset bottom ragged\nset topnumber 2\nset bottomnumber 1\nset totalnumber 3\nset dbltopnumber 2\nset topfraction 45875/65536\nset bottomfraction 19661/65536\nset textfraction 13107/65536\nset floatpagefraction 32768/65536\nset dbltopfraction 45875/65536\nset dblfloatpagefraction 32768/65536\nset floatsep 786432 plus 131072 minus 131072\nset textfloatsep 1310720 plus 131072 minus 262144\nset intextsep 786432 plus 131072 minus 131072\nset dblfloatsep 786432 plus 131072 minus 131072\nset dbltextfloatsep 1310720 plus 131072 minus 262144\nset fptop 0 plus 65536sfil minus 0\nset fpsep 524288 plus 131072sfil minus 0\nset fpbot 0 plus 65536sfil minus 0\nset dblfptop 0 plus 65536sfil minus 0\nset dblfpsep 524288 plus 131072sfil minus 0\nset dblfpbot 0 plus 65536sfil minus 0\nset skipfootins 589824 plus 262144 minus 131072\nset footlimit 37890293\nset footsplittop 435814\nset footsplitdepth 186778\nset footfloating 20000\nset splittopskip 655360\nset splitmaxdepth 1073741823\nset floatingpenalty 0\nset interlinepenalty 0\nset parskip 0 plus 65536 minus 0\nset marginparpush 327680\nset mparswitch off\nset reversemargin off\nset pool 18\nset maxdeadcycles 100\nset maxpages 1000000\nset maxnodes 4194304\nend\n") []
