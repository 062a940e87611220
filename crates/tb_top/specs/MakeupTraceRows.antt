-- A worked row of the trace of plain TeX's page makeup, which no mode shows.
use Rattle.std.specs.Prelude.{◌≡◌, ℕ, List, [], Result, Ok, Err, codes}
use Rattle.tb_galley.specs.declared.Fault.{Fault}
use Rattle.tb_galley.specs.declared.Galley.{Galley}
use Rattle.tb_galley.specs.Grammar.{grammar}
use Rattle.tb_plain.specs.Run.{makeup_of}
use Rattle.tb_top.specs.MakeupTrace.{makeup_trace}

-- the trace of the run of a galley; nothing if there is none
abbrev pub trace_of : Result Galley Fault → List ℕ
trace_of (Ok g) = makeup_trace (makeup_of g)
trace_of (Err f) = []

-- an input with the trace that the definitions give
pub record MakeupTraceRows : Type 0 where
  -- a float is taken into the text after two places were tried; the place before it is not the best so far, though it is the first after the float was taken
  pub float_in_the_text : trace_of (grammar (codes "galley 1\nset textheight 100\nset topskip 10\nset maxdepth 0\nset baselineskip 0\nset bottom flush\nset skipfootins 0\nset footsplittop 10\nset intextsep 0\nset textfloatsep 0\nset floatsep 0\nset fptop 0\nset fpsep 0\nset fpbot 0\nset dbltextfloatsep 0\nbox a 20 0\nglue 0 plus 80\nbox c 0 0\npenalty -50\nfloat F 1 single h 80 par\nbox b 10 0\nend\n")) ≡ codes "report 1\ntry 17 t 20 s 0 0 0 0 z 0 g 100 b 10000 p 0 c 100000 #\ntry 19 t 20 s 80 0 0 0 z 0 g 100 b 100 p -50 c 50 #\ntry 0 t 20 s 80 0 0 0 z 0 g 100 b 100 p 0 c 100\ntry 0 t 100 s 80 0 0 0 z 0 g 100 b 0 p -200 c -200 #\ntry 22 t 110 s 80 0 0 0 z 0 g 100 b * p 0 c *\npage 1 one\ncolumn 1 text height 100 natural 100 set none\nbox a 0 20 0\nbox c 20 0 0\nfloat F 1 here 20 80\ntry 22 t 10 s 0 0 0 0 z 0 g 100 b 10000 p 0 c 100000 #\ntry 22 t 10 s 0 0 65536 0 z 0 g 100 b 0 p -20000 c -20000 #\npage 2 one\ncolumn 1 text height 100 natural 10 set stretch fill 90/65536\nbox b 0 10 0\nend pages 2 boxes 3 floats 1 warnings 0\n"
