-- Worked rows of plain mode.
use Rattle.std.specs.Prelude.{[], codes}
use Rattle.tb_top.specs.declared.status.Status.TheVariants.{Done, PageLimit, Unsuited}
use Rattle.tb_words.specs.declared.Mode.TheVariants.{Plain}
use Rattle.tb_top.specs.Rows.{Replies}

-- each input with what the definitions give
pub record MakeupRows : Type 0 where
  -- nothing is shipped
  pub empty_galley : Replies Plain (codes "galley 1\nend\n") Done (codes "report 1\nend pages 0 boxes 0 floats 0 warnings 0\n") []
  -- a clear fills the page
  pub page_of_text : Replies Plain (codes "galley 1\nset textheight 100\nset topskip 10\nset maxdepth 0\nset baselineskip 0\nset bottom flush\nset skipfootins 0\nset footsplittop 10\nbox a 20 0\nglue 0 plus 1\nbox b 10 0\nend\n") Done (codes "report 1\npage 1 one\ncolumn 1 text height 100 natural 30 set stretch fill 70/65536\nbox a 0 20 0\nbox b 20 10 0\nend pages 1 boxes 2 floats 0 warnings 0\n") []
  -- at a ragged bottom a kern backs up over the depth
  pub ragged_page : Replies Plain (codes "galley 1\nset textheight 100\nset topskip 10\nset maxdepth 0\nset baselineskip 0\nset bottom ragged\nset skipfootins 0\nset footsplittop 10\nset maxdepth 4\nbox a 20 0\nglue 0\nbox b 10 3\npenalty -10000\nbox c 10 0\nend\n") Done (codes "report 1\npage 1 one\ncolumn 1 text height 100 natural 30 set stretch fil 70/65536\nbox a 0 20 0\nbox b 20 10 3\npage 2 one\ncolumn 1 text height 100 natural 10 set stretch fill 90/65536\nbox c 0 10 0\nend pages 2 boxes 3 floats 0 warnings 0\n") []
  -- a footnote that is split leaves its rest to the next page
  pub held_footnote : Replies Plain (codes "galley 1\nset textheight 100\nset topskip 10\nset maxdepth 0\nset baselineskip 0\nset bottom flush\nset skipfootins 0\nset footsplittop 10\nbox a 60 0\nfoot\nbox f 30 0\nglue 0\nbox g 30 0\nendfoot\nend\n") Done (codes "report 1\npage 1 one\ncolumn 1 text height 100 natural 90 set stretch fill 10/65536\nbox a 0 60 0\nfootrule -196538 26214 0\nbox f 70 30 0\npage 2 one\ncolumn 1 text height 100 natural 30 set stretch fill 70/65536\nfootrule -196538 26214 0\nbox g 70 30 0\nend pages 2 boxes 3 floats 0 warnings 0\n") []
  -- a note that is left has a page of its own
  pub note_has_a_page : Replies Plain (codes "galley 1\nset textheight 100\nset topskip 10\nset maxdepth 0\nset baselineskip 0\nset bottom flush\nset skipfootins 0\nset footsplittop 10\nbox a 10 0\nnewpage\nnote n\nend\n") Done (codes "report 1\npage 1 one\ncolumn 1 text height 100 natural 10 set stretch fil 90/65536\nbox a 0 10 0\npage 2 one\ncolumn 1 text height 100 natural 10 set stretch fill 90/65536\nnote n 0\nend pages 2 boxes 1 floats 0 warnings 0\n") []
  -- a second page, if one is allowed
  pub page_limit : Replies Plain (codes "galley 1\nset textheight 100\nset topskip 10\nset maxdepth 0\nset baselineskip 0\nset bottom flush\nset skipfootins 0\nset footsplittop 10\nset maxpages 1\nbox a 10 0\nnewpage\nbox b 10 0\nend\n") PageLimit (codes "report 1\npage 1 one\ncolumn 1 text height 100 natural 10 set stretch fil 90/65536\nbox a 0 10 0\n") (codes "galley_pages: page limit 1\n")
  -- a float that just fits goes into the text
  pub float_fits : Replies Plain (codes "galley 1\nset textheight 100\nset topskip 10\nset maxdepth 0\nset baselineskip 0\nset bottom flush\nset skipfootins 0\nset footsplittop 10\nset intextsep 0\nset textfloatsep 0\nset floatsep 0\nset fptop 0\nset fpsep 0\nset fpbot 0\nset dbltextfloatsep 0\nbox a 20 0\nfloat F 1 single h 80 par\nbox b 10 0\nend\n") Done (codes "report 1\npage 1 one\ncolumn 1 text height 100 natural 100 set none\nbox a 0 20 0\nfloat F 1 here 20 80\npage 2 one\ncolumn 1 text height 100 natural 10 set stretch fill 90/65536\nbox b 0 10 0\nend pages 2 boxes 2 floats 1 warnings 0\n") []
  -- one that does not fit is held, and has a page of its own
  pub float_goes_to_the_top : Replies Plain (codes "galley 1\nset textheight 100\nset topskip 10\nset maxdepth 0\nset baselineskip 0\nset bottom flush\nset skipfootins 0\nset footsplittop 10\nset intextsep 0\nset textfloatsep 0\nset floatsep 0\nset fptop 0\nset fpsep 0\nset fpbot 0\nset dbltextfloatsep 0\nbox a 20 0\nfloat F 1 single h 81 par\nbox b 10 0\nend\n") Done (codes "report 1\npage 1 one\ncolumn 1 text height 100 natural 30 set stretch fill 70/65536\nbox a 0 20 0\nbox b 20 10 0\npage 2 one\ncolumn 1 text height 100 natural 81 set stretch fill 19/65536\nfloat F 1 top 0 81\nend pages 2 boxes 2 floats 1 warnings 0\n") []
  -- one that asks for a page alone is as high as the text
  pub float_has_a_page : Replies Plain (codes "galley 1\nset textheight 100\nset topskip 10\nset maxdepth 0\nset baselineskip 0\nset bottom flush\nset skipfootins 0\nset footsplittop 10\nset intextsep 0\nset textfloatsep 0\nset floatsep 0\nset fptop 0\nset fpsep 0\nset fpbot 0\nset dbltextfloatsep 0\nbox a 20 0\nfloat F 1 single p 30 par\nglue 0 plus 1\nbox b 10 0\nend\n") Done (codes "report 1\npage 1 one\ncolumn 1 text height 100 natural 30 set stretch fill 70/65536\nbox a 0 20 0\nbox b 20 10 0\npage 2 one\ncolumn 1 text height 100 natural 100 set none\nfloat F 1 page 0 100\nend pages 2 boxes 2 floats 1 warnings 0\n") []
  -- a class line of the number of top floats has no effect
  pub class_line_of_253 : Replies Plain (codes "galley 2\nset textheight 100\nset topskip 10\nset maxdepth 0\nset baselineskip 0\nset bottom flush\nset skipfootins 0\nset footsplittop 10\nset intextsep 0\nset textfloatsep 0\nset floatsep 0\nset fptop 0\nset fpsep 0\nset fpbot 0\nset dbltextfloatsep 0\nclass 253 0 0 0\nfloat F 1 single t 30 par\nbox a 20 0\nend\n") Done (codes "report 1\npage 1 one\ncolumn 1 text height 100 natural 50 set stretch fill 50/65536\nfloat F 1 top 0 30\nbox a 30 20 0\nend pages 1 boxes 1 floats 1 warnings 0\n") []
  -- two columns are not served
  pub two_columns : Replies Plain (codes "galley 1\nset textheight 100\nset topskip 10\nset maxdepth 0\nset baselineskip 0\nset bottom flush\nset skipfootins 0\nset footsplittop 10\nset intextsep 0\nset textfloatsep 0\nset floatsep 0\nset fptop 0\nset fpsep 0\nset fpbot 0\nset dbltextfloatsep 0\ntwocolumn\nend\n") Unsuited [] (codes "galley_pages: line 16: not served in this mode\n")
  -- nor is a foot of another class than that of footnotes
  pub foot_of_another_class : Replies Plain (codes "galley 2\nclass 3 1000 1000 0\nbox a 10 0\nfoot 3\nbox g 10 0\nendfoot\nend\n") Unsuited [] (codes "galley_pages: line 4: not served in this mode\n")
