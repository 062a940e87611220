-- Worked rows of galley version 2 and release 2014.
use Rattle.std.specs.Prelude.{[], codes}
use Rattle.tb_top.specs.declared.status.Status.TheVariants.{Done, Syntax, Range}
use Rattle.tb_words.specs.declared.Mode.TheVariants.{Report, Trace}
use Rattle.tb_top.specs.Rows.{Replies}

-- each input with what the definitions give
pub record VersionRows : Type 0 where
  -- half the height of an insertion counts
  pub class_of_factor_500 : Replies Report (codes "galley 2\nset textheight 40000\nset topskip 10\nset maxdepth 0\nset baselineskip 0\nset bottom flush\nset skipfootins 0\nset footsplittop 10\nset intextsep 0\nset textfloatsep 0\nset floatsep 0\nset fptop 0\nset fpsep 0\nset fpbot 0\nset dbltextfloatsep 0\nclass 3 500 100000 0\nbox a 10000 0\nfoot 3\nbox f 20000 0\nendfoot\nend\n") Done (codes "report 1\npage 1 one\ncolumn 1 text height 40000 natural 30000 set stretch fil 10000/65536\nbox a 0 10000 0\nbox f 20000 20000 0\nend pages 1 boxes 2 floats 0 warnings 0\n") []
  -- a footnote of a class that no line declares
  pub foot_of_undeclared_class : Replies Report (codes "galley 2\nfoot 4\nendfoot\nend\n") Range [] (codes "galley_pages: line 2 field 2: Class\n")
  -- insertions of two classes in a column
  pub two_classes_in_a_column : Replies Report (codes "galley 2\nset textheight 40\nset topskip 10\nset maxdepth 0\nset baselineskip 0\nset bottom flush\nset skipfootins 0\nset footsplittop 10\nset intextsep 0\nset textfloatsep 0\nset floatsep 0\nset fptop 0\nset fpsep 0\nset fpbot 0\nset dbltextfloatsep 0\nclass 3 1000 1000 0\nbox a 10 0\nfoot\nbox f 10 0\nendfoot\nfoot 3\nbox g 10 0\nendfoot\nend\n") Done (codes "report 1\npage 1 one\ncolumn 1 text height 40 natural 30 set stretch fil 10/65536\nbox a 0 10 0\nbox g 20 10 0\nfootrule -196578 26214 0\nbox f 30 10 0\nend pages 1 boxes 3 floats 0 warnings 0\n") []
  -- a release that does not exist
  pub release_2013 : Replies Report (codes "galley 2\nset textheight 100\nset topskip 10\nset maxdepth 0\nset baselineskip 0\nset bottom flush\nset skipfootins 0\nset footsplittop 10\nset intextsep 0\nset textfloatsep 0\nset floatsep 0\nset fptop 0\nset fpsep 0\nset fpbot 0\nset dbltextfloatsep 0\nset release 2013\nend\n") Syntax [] (codes "galley_pages: line 16 field 3: WrongForm\n")
  -- double floats wait in a list of their own
  pub release_2014 : Replies Report (codes "galley 2\nset textheight 100\nset topskip 10\nset maxdepth 0\nset baselineskip 0\nset bottom flush\nset skipfootins 0\nset footsplittop 10\nset intextsep 0\nset textfloatsep 0\nset floatsep 0\nset fptop 0\nset fpsep 0\nset fpbot 0\nset dbltextfloatsep 0\nset release 2014\ntwocolumn\nbox a 20 0\nfloat W 1 double t 30 par\nfloat S 1 single ht 20 par\nnewpage\nbox b 10 0\nnewpage\nbox c 10 0\nend\n") Done (codes "report 1\npage 1 two at 0\ncolumn 1 text height 100 natural 40 set stretch fil 60/65536\nbox a 0 20 0\nfloat S 1 here 20 20\ncolumn 2 text height 100 natural 10 set stretch fil 90/65536\nbox b 0 10 0\npage 2 two at 30\nfloat W 1 wide 0 30\ncolumn 1 text height 70 natural 10 set stretch fil 60/65536\nbox c 0 10 0\ncolumn 2 text height 70 natural 10 set stretch fil 60/65536\nend pages 2 boxes 3 floats 2 warnings 0\n") []
  -- all floats wait together
  pub release_2015 : Replies Report (codes "galley 2\nset textheight 100\nset topskip 10\nset maxdepth 0\nset baselineskip 0\nset bottom flush\nset skipfootins 0\nset footsplittop 10\nset intextsep 0\nset textfloatsep 0\nset floatsep 0\nset fptop 0\nset fpsep 0\nset fpbot 0\nset dbltextfloatsep 0\nset release 2015\ntwocolumn\nbox a 20 0\nfloat W 1 double t 30 par\nfloat S 1 single ht 20 par\nnewpage\nbox b 10 0\nnewpage\nbox c 10 0\nend\n") Done (codes "report 1\npage 1 two at 0\ncolumn 1 text height 100 natural 20 set stretch fil 80/65536\nbox a 0 20 0\ncolumn 2 text height 100 natural 10 set stretch fil 90/65536\nbox b 0 10 0\npage 2 two at 30\nfloat W 1 wide 0 30\ncolumn 1 text height 70 natural 30 set stretch fil 40/65536\nfloat S 1 top 0 20\nbox c 20 10 0\ncolumn 2 text height 70 natural 10 set stretch fil 60/65536\nend pages 2 boxes 3 floats 2 warnings 0\n") []
  -- the same with the places that were tried
  pub class_of_factor_500_traced : Replies Trace (codes "galley 2\nset textheight 40000\nset topskip 10\nset maxdepth 0\nset baselineskip 0\nset bottom flush\nset skipfootins 0\nset footsplittop 10\nset intextsep 0\nset textfloatsep 0\nset floatsep 0\nset fptop 0\nset fpsep 0\nset fpbot 0\nset dbltextfloatsep 0\nclass 3 500 100000 0\nbox a 10000 0\nfoot 3\nbox f 20000 0\nendfoot\nend\n") Done (codes "report 1\ntry 21 t 10000 s 0 0 0 0 z 0 g 30000 b 10000 p 0 c 100000 #\ntry 21 t 10000 s 0 65536 0 0 z 0 g 30000 b 0 p -10000 c -10000 #\npage 1 one\ncolumn 1 text height 40000 natural 30000 set stretch fil 10000/65536\nbox a 0 10000 0\nbox f 20000 20000 0\ntry 21 t 0 s 0 0 0 0 z 0 g 40000 b 10000 p 0 c 100000 #\ntry 21 t 10 s 0 0 0 0 z 0 g 40000 b 10000 p -10001 c -10001 #\nend pages 1 boxes 2 floats 0 warnings 0\n") []
