-- Worked rows of the definitions: words, texts and traces.
use Rattle.std.proofs.Common.{◌≡◌, refl, ℕ, List, [], ◌∷◌}
use Rattle.std.specs.Prelude.{Bool, true, false, codes, Result, Err}
use Rattle.std.specs.List.{fold}
use Rattle.std.specs.Fmt.{digits}
use Rattle.tb_scaled.specs.Scaled.{badness_of}
use Rattle.tb_text.specs.Lines.{lines_of}
use Rattle.tb_param.specs.Defaults.{default_params}
use Rattle.tb_param.specs.Table.{row_of}
use Rattle.tb_galley.specs.declared.Cause.TheVariants as causes
use Rattle.tb_galley.specs.declared.Fault.{Fault}
use Rattle.tb_galley.specs.declared.Galley.{Galley}
use Rattle.tb_galley.specs.Words.{word_of}
use Rattle.tb_galley.specs.Faults.{fault}
use Rattle.tb_galley.specs.Grammar.{grammar, with_line, empty_draft, content_from, galley_of}
use Rattle.tb_galley.specs.GalleyNodes.{expanded}
use Rattle.tb_galley.specs.CanonicalText.{printed}
use Rattle.tb_break.specs.Cost.{page_badness, cost_of_badness}
use Rattle.tb_output.specs.Output.{out}
use Rattle.tb_steps.specs.Run.{End, pool_full, dead_cycles, run_of, run_from, step}
use Rattle.tb_top.specs.Report.{report, trace}
use Rattle.tb_laws.specs.Laws.{is_carried, shipped_boxes}

-- the galley of an input without faults
abbrev galley_read : List ℕ → Galley
galley_read input = galley_of (fold with_line empty_draft (content_from 1 (lines_of input)))

-- what is written for an input without faults
abbrev reported : List ℕ → List ℕ
unfolding report digits row_of run_of run_from step expanded default_params out page_badness cost_of_badness badness_of word_of
reported input = report (run_of (galley_read input))

abbrev traced : List ℕ → List ℕ
unfolding trace digits row_of run_of run_from step expanded default_params out page_badness cost_of_badness badness_of word_of
traced input = trace (run_of (galley_read input))

abbrev ending : List ℕ → End
unfolding row_of run_of run_from step expanded default_params out page_badness cost_of_badness badness_of word_of
ending input = (run_of (galley_read input)).end

-- the boxes of an input in the order in which they ship
abbrev boxes_shipped : List ℕ → List ℕ
unfolding row_of run_of run_from step expanded default_params out page_badness cost_of_badness badness_of word_of
boxes_shipped input = shipped_boxes (run_of (galley_read input))

-- whether the float of a line was carried past the column in which it was placed
abbrev carried : ℕ → List ℕ → Bool
unfolding row_of run_of run_from step expanded default_params out page_badness cost_of_badness badness_of word_of
carried line input = is_carried (run_of (galley_read input)) line

three_boxes_traced : traced (codes "galley 1\nset textheight 30\nset topskip 10\nset maxdepth 0\nbox a 10 0\nglue 0 plus 5\nbox b 10 0\nglue 0 plus 5\nbox c 10 0\nend\n") ≡ codes "report 1\ntry 6 t 10 s 0 0 0 0 z 0 g 30 b 10000 p 0 c 100000 #\ntry 8 t 20 s 5 0 0 0 z 0 g 30 b 800 p 0 c 800 #\ntry 10 t 30 s 10 0 0 0 z 0 g 30 b 0 p 0 c 0 #\ntry 10 t 30 s 10 65536 0 0 z 0 g 30 b 0 p -10000 c -10000 #\npage 1 one\ncolumn 1 text height 30 natural 30 set none\nbox a 0 10 0\nbox b 10 10 0\nbox c 20 10 0\ntry 10 t 0 s 0 0 0 0 z 0 g 30 b 10000 p 0 c 100000 #\ntry 10 t 10 s 0 0 0 0 z 0 g 30 b 10000 p -10001 c -10001 #\nend pages 1 boxes 3 floats 0 warnings 0\n"
unfolding traced
three_boxes_traced = refl

act_between_kern_and_glue : reported (codes "galley 1\nset textheight 30\nset topskip 10\nset maxdepth 0\nset baselineskip 0\nset bottom flush\nset skipfootins 0\nset footsplittop 10\nset intextsep 0\nset textfloatsep 0\nset floatsep 0\nset fptop 0\nset fpsep 0\nset fpbot 0\nset dbltextfloatsep 0\nbox a 20 0\nkern 0\nsuppressfloats\nglue 0\nbox b 20 0\nend\n") ≡ codes "report 1\npage 1 one\ncolumn 1 text height 30 natural 20 set none\nbox a 0 20 0\npage 2 one\ncolumn 1 text height 30 natural 20 set stretch fil 10/65536\nbox b 0 20 0\nend pages 2 boxes 2 floats 0 warnings 0\n"
unfolding reported
act_between_kern_and_glue = refl

float_is_deferred : reported (codes "galley 1\nset textheight 100\nset topskip 10\nset maxdepth 0\nset baselineskip 0\nset bottom flush\nset skipfootins 0\nset footsplittop 10\nset intextsep 0\nset textfloatsep 0\nset floatsep 0\nset fptop 0\nset fpsep 0\nset fpbot 0\nset dbltextfloatsep 0\nbox a 20 0\nfloat F 1 single ht 80 par\nend\n") ≡ codes "report 1\npage 1 one\ncolumn 1 text height 100 natural 20 set stretch fil 80/65536\nbox a 0 20 0\npage 2 one\ncolumn 1 floats height 100 natural 80 set none\nfloat F 1 page 0 80\nend pages 2 boxes 1 floats 1 warnings 0\n"
unfolding reported
float_is_deferred = refl

float_goes_here : reported (codes "galley 1\nset textheight 100\nset topskip 10\nset maxdepth 0\nset baselineskip 0\nset bottom flush\nset skipfootins 0\nset footsplittop 10\nset intextsep 0\nset textfloatsep 0\nset floatsep 0\nset fptop 0\nset fpsep 0\nset fpbot 0\nset dbltextfloatsep 0\nbox a 20 0\nfloat F 1 single ht 79 par\nend\n") ≡ codes "report 1\npage 1 one\ncolumn 1 text height 100 natural 99 set stretch fil 1/65536\nbox a 0 20 0\nfloat F 1 here 20 79\nend pages 1 boxes 1 floats 1 warnings 0\n"
unfolding reported
float_goes_here = refl

bang_helps_one_float : reported (codes "galley 1\nset textheight 100\nset topskip 10\nset maxdepth 0\nset baselineskip 0\nset bottom flush\nset skipfootins 0\nset footsplittop 10\nset intextsep 0\nset textfloatsep 0\nset floatsep 0\nset fptop 0\nset fpsep 0\nset fpbot 0\nset dbltextfloatsep 0\nset bottomnumber 0\nbox a 20 0\nfloat F 1 single !b 10 par\nfloat G 2 single b 10 par\nend\n") ≡ codes "report 1\npage 1 one\ncolumn 1 text height 100 natural 30 set stretch fil 70/65536\nbox a 0 20 0\nfloat F 1 bottom 90 10\npage 2 one\ncolumn 1 floats height 100 natural 10 set none\nfloat G 2 page 0 10\nend pages 2 boxes 1 floats 2 warnings 0\n"
unfolding reported
bang_helps_one_float = refl

only_h_gains_t : reported (codes "galley 1\nset textheight 100\nset topskip 10\nset maxdepth 0\nset baselineskip 0\nset bottom flush\nset skipfootins 0\nset footsplittop 10\nset intextsep 0\nset textfloatsep 0\nset floatsep 0\nset fptop 0\nset fpsep 0\nset fpbot 0\nset dbltextfloatsep 0\nbox a 60 0\nfloat F 1 single h 50 par\nnewpage\nbox b 10 0\nend\n") ≡ codes "report 1\nwarn ht F\npage 1 one\ncolumn 1 text height 100 natural 60 set stretch fil 40/65536\nbox a 0 60 0\npage 2 one\ncolumn 1 text height 100 natural 60 set stretch fil 40/65536\nfloat F 1 top 0 50\nbox b 50 10 0\nend pages 2 boxes 2 floats 1 warnings 1\n"
unfolding reported
only_h_gains_t = refl

float_carried_past_a_later_one : reported (codes "galley 1\nset textheight 100\nset topskip 10\nset maxdepth 0\nset baselineskip 0\nset bottom flush\nset skipfootins 0\nset footsplittop 10\nset intextsep 0\nset textfloatsep 0\nset floatsep 0\nset fptop 0\nset fpsep 0\nset fpbot 0\nset dbltextfloatsep 0\nbox a 40 0\nglue 0 plus 60\npenalty -9999\nbox b 10 0\nfloat F 1 single h 20 par\nbox c 10 0\nfloat G 1 single b 10 par\nbox d 20 0\nend\n") ≡ codes "report 1\npage 1 one\ncolumn 1 text height 100 natural 50 set stretch normal 50/60\nbox a 0 40 0\nfloat G 1 bottom 90 10\npage 2 one\ncolumn 1 text height 100 natural 60 set stretch fil 40/65536\nbox b 0 10 0\nfloat F 1 here 10 20\nbox c 30 10 0\nbox d 40 20 0\nend pages 2 boxes 4 floats 2 warnings 0\n"
unfolding reported
float_carried_past_a_later_one = refl

float_may_not_pass_its_class : reported (codes "galley 1\nset textheight 100\nset topskip 10\nset maxdepth 0\nset baselineskip 0\nset bottom flush\nset skipfootins 0\nset footsplittop 10\nset intextsep 0\nset textfloatsep 0\nset floatsep 0\nset fptop 0\nset fpsep 0\nset fpbot 0\nset dbltextfloatsep 0\nbox a 20 0\nfloat F 1 single h 20 par\nfloat G 1 single t 10 par\nbox b 10 0\nend\n") ≡ codes "report 1\npage 1 one\ncolumn 1 text height 100 natural 50 set stretch fil 50/65536\nbox a 0 20 0\nfloat F 1 here 20 20\nbox b 40 10 0\npage 2 one\ncolumn 1 floats height 100 natural 10 set none\nfloat G 1 page 0 10\nend pages 2 boxes 2 floats 2 warnings 0\n"
unfolding reported
float_may_not_pass_its_class = refl

float_page_above_the_minimum : reported (codes "galley 1\nset textheight 100\nset topskip 10\nset maxdepth 0\nset baselineskip 0\nset bottom flush\nset skipfootins 0\nset footsplittop 10\nset intextsep 0\nset textfloatsep 0\nset floatsep 0\nset fptop 0\nset fpsep 0\nset fpbot 0\nset dbltextfloatsep 0\nbox a 20 0\nfloat F 1 single p 51 par\nnewpage\nbox b 10 0\nend\n") ≡ codes "report 1\npage 1 one\ncolumn 1 text height 100 natural 20 set stretch fil 80/65536\nbox a 0 20 0\npage 2 one\ncolumn 1 floats height 100 natural 51 set none\nfloat F 1 page 0 51\npage 3 one\ncolumn 1 text height 100 natural 10 set stretch fil 90/65536\nbox b 0 10 0\nend pages 3 boxes 2 floats 1 warnings 0\n"
unfolding reported
float_page_above_the_minimum = refl

float_page_at_the_minimum : reported (codes "galley 1\nset textheight 100\nset topskip 10\nset maxdepth 0\nset baselineskip 0\nset bottom flush\nset skipfootins 0\nset footsplittop 10\nset intextsep 0\nset textfloatsep 0\nset floatsep 0\nset fptop 0\nset fpsep 0\nset fpbot 0\nset dbltextfloatsep 0\nbox a 20 0\nfloat F 1 single p 50 par\nnewpage\nbox b 10 0\nend\n") ≡ codes "report 1\npage 1 one\ncolumn 1 text height 100 natural 20 set stretch fil 80/65536\nbox a 0 20 0\npage 2 one\ncolumn 1 text height 100 natural 10 set stretch fil 90/65536\nbox b 0 10 0\npage 3 one\ncolumn 1 floats height 100 natural 50 set none\nfloat F 1 page 0 50\nend pages 3 boxes 2 floats 1 warnings 0\n"
unfolding reported
float_page_at_the_minimum = refl

double_float_keeps_class_order : reported (codes "galley 1\nset textheight 100\nset topskip 10\nset maxdepth 0\nset baselineskip 0\nset bottom flush\nset skipfootins 0\nset footsplittop 10\nset intextsep 0\nset textfloatsep 0\nset floatsep 0\nset fptop 0\nset fpsep 0\nset fpbot 0\nset dbltextfloatsep 0\ntwocolumn\nbox a 20 0\nfloat W 1 double t 30 par\nfloat S 1 single ht 20 par\nnewpage\nbox b 10 0\nnewpage\nbox c 10 0\nend\n") ≡ codes "report 1\npage 1 two at 0\ncolumn 1 text height 100 natural 20 set stretch fil 80/65536\nbox a 0 20 0\ncolumn 2 text height 100 natural 10 set stretch fil 90/65536\nbox b 0 10 0\npage 2 two at 30\nfloat W 1 wide 0 30\ncolumn 1 text height 70 natural 30 set stretch fil 40/65536\nfloat S 1 top 0 20\nbox c 20 10 0\ncolumn 2 text height 70 natural 10 set stretch fil 60/65536\nend pages 2 boxes 3 floats 2 warnings 0\n"
unfolding reported
double_float_keeps_class_order = refl

clear_in_two_columns : reported (codes "galley 1\nset textheight 100\nset topskip 10\nset maxdepth 0\nset baselineskip 0\nset bottom flush\nset skipfootins 0\nset footsplittop 10\nset intextsep 0\nset textfloatsep 0\nset floatsep 0\nset fptop 0\nset fpsep 0\nset fpbot 0\nset dbltextfloatsep 0\ntwocolumn\nbox a 10 0\nfloat W 1 double t 30 par\nnewpage\nbox b 10 0\nnewpage\nbox c 10 0\nnewpage\nfloat S 2 single p 80 par\nclearpage\nbox e 10 0\nend\n") ≡ codes "report 1\npage 1 two at 0\ncolumn 1 text height 100 natural 10 set stretch fil 90/65536\nbox a 0 10 0\ncolumn 2 text height 100 natural 10 set stretch fil 90/65536\nbox b 0 10 0\npage 2 two at 30\nfloat W 1 wide 0 30\ncolumn 1 text height 70 natural 10 set stretch fil 60/65536\nbox c 0 10 0\ncolumn 2 text height 70 natural 10 set stretch fil 60/65536\npage 3 two at 0\ncolumn 1 floats height 100 natural 80 set none\nfloat S 2 page 0 80\ncolumn 2 text height 100 natural 10 set stretch fil 90/65536\npage 4 two at 0\ncolumn 1 text height 100 natural 10 set stretch fil 90/65536\nbox e 0 10 0\ncolumn 2 text height 100 natural 10 set stretch fil 90/65536\nend pages 4 boxes 4 floats 2 warnings 0\n"
unfolding reported
clear_in_two_columns = refl

pool_fills : reported (codes "galley 1\nset textheight 100\nset topskip 10\nset maxdepth 0\nset baselineskip 0\nset bottom flush\nset skipfootins 0\nset footsplittop 10\nset intextsep 0\nset textfloatsep 0\nset floatsep 0\nset fptop 0\nset fpsep 0\nset fpbot 0\nset dbltextfloatsep 0\nset pool 2\nbox a 60 0\nfloat F 1 single b 50 par\nfloat G 1 single b 50 par\nnewpage\nbox b 10 0\nfloat H 1 single b 50 par\nend\n") ≡ codes "report 1\npage 1 one\ncolumn 1 text height 100 natural 60 set stretch fil 40/65536\nbox a 0 60 0\n"
unfolding reported
pool_fills = refl

no_page_before_the_limit : reported (codes "galley 1\nset textheight 100\nset topskip 10\nset maxdepth 0\nset baselineskip 0\nset bottom flush\nset skipfootins 0\nset footsplittop 10\nset intextsep 0\nset textfloatsep 0\nset floatsep 0\nset fptop 0\nset fpsep 0\nset fpbot 0\nset dbltextfloatsep 0\nset maxdeadcycles 4\nbox a 10 0\nfloat F 1 single p 60 par\nfloat G 1 single p 60 par\nfloat H 1 single p 60 par\nend\n") ≡ codes "report 1\n"
unfolding reported
no_page_before_the_limit = refl

dead_cycles_suffice : reported (codes "galley 1\nset textheight 100\nset topskip 10\nset maxdepth 0\nset baselineskip 0\nset bottom flush\nset skipfootins 0\nset footsplittop 10\nset intextsep 0\nset textfloatsep 0\nset floatsep 0\nset fptop 0\nset fpsep 0\nset fpbot 0\nset dbltextfloatsep 0\nset maxdeadcycles 28\nbox a 10 0\nfloat F 1 single p 60 par\nfloat G 1 single p 60 par\nfloat H 1 single p 60 par\nend\n") ≡ codes "report 1\npage 1 one\ncolumn 1 text height 100 natural 10 set stretch fil 90/65536\nbox a 0 10 0\npage 2 one\ncolumn 1 floats height 100 natural 60 set none\nfloat F 1 page 0 60\npage 3 one\ncolumn 1 floats height 100 natural 60 set none\nfloat G 1 page 0 60\npage 4 one\ncolumn 1 floats height 100 natural 60 set none\nfloat H 1 page 0 60\nend pages 4 boxes 1 floats 3 warnings 0\n"
unfolding reported
dead_cycles_suffice = refl

marginal_notes : reported (codes "galley 1\nset textheight 100\nset topskip 10\nset maxdepth 0\nset baselineskip 0\nset bottom flush\nset skipfootins 0\nset footsplittop 10\nset intextsep 0\nset textfloatsep 0\nset floatsep 0\nset fptop 0\nset fpsep 0\nset fpbot 0\nset dbltextfloatsep 0\nset marginparpush 2\nbox a 10 2\nmargin m 8 4 8 4 par\nbox b 6 2\nmargin n 8 4 8 4 par\nnewpage\nbox c 10 0\nmargin q 8 4 8 4 par\nend\n") ≡ codes "report 1\nwarn moved n 6\npage 1 one\ncolumn 1 text height 100 natural 20 set stretch fil 80/65536\nbox a 0 10 2\nmargin m right 0 10 8 4\nbox b 12 6 2\nmargin n right 6 18 8 4\npage 2 one\ncolumn 1 text height 100 natural 10 set stretch fil 90/65536\nbox c 0 10 0\nmargin q right 0 10 8 4\nend pages 2 boxes 3 floats 0 warnings 1\n"
unfolding reported
marginal_notes = refl

page_holds_only_floats : reported (codes "galley 1\nset textheight 100\nset topskip 10\nset maxdepth 0\nset baselineskip 0\nset bottom flush\nset skipfootins 0\nset footsplittop 10\nset intextsep 0\nset textfloatsep 0\nset floatsep 0\nset fptop 0\nset fpsep 0\nset fpbot 0\nset dbltextfloatsep 0\nset baselineskip 20\nbox a 10 0\nfloat F 1 single !t 75 par\nend\n") ≡ codes "report 1\nwarn floats 1\npage 1 one\ncolumn 1 text height 100 natural 85 set none\nfloat F 1 top 0 75\nbox a 75 10 0\nend pages 1 boxes 1 floats 1 warnings 1\n"
unfolding reported
page_holds_only_floats = refl

large_float_is_cut : reported (codes "galley 1\nset textheight 100\nset topskip 10\nset maxdepth 0\nset baselineskip 0\nset bottom flush\nset skipfootins 0\nset footsplittop 10\nset intextsep 0\nset textfloatsep 0\nset floatsep 0\nset fptop 0\nset fpsep 0\nset fpbot 0\nset dbltextfloatsep 0\nbox a 10 0\nfloat F 1 single p 150 par\nend\n") ≡ codes "report 1\nwarn large F 50\npage 1 one\ncolumn 1 text height 100 natural 10 set stretch fil 90/65536\nbox a 0 10 0\npage 2 one\ncolumn 1 floats height 100 natural 100 set none\nfloat F 1 page 0 100\nend pages 2 boxes 1 floats 1 warnings 1\n"
unfolding reported
large_float_is_cut = refl

article_page : reported (codes "galley 1\nbox p1 7pt 2pt\nfoot\nbox f1 6.65pt 2.85pt\nendfoot\nglue 0pt plus 1pt\nglue 3pt\nbox p2 7pt 2pt\nglue 0pt plus 1pt\nglue 3pt\nbox p3 7pt 2pt\nfloat figA 1 single tbp 100pt par\nglue 0pt plus 1pt\nglue 3pt\nbox p4 7pt 2pt\nglue 0pt plus 1pt\nglue 3pt\nbox p5 7pt 2pt\nfoot\nbox f2 6.65pt 2.85pt\nendfoot\nglue 0pt plus 1pt\nglue 3pt\nbox p6 7pt 2pt\nfloat tabA 2 single ht 60pt vert\nglue 0pt plus 1pt\nglue 3pt\nbox p7 7pt 2pt\nglue 0pt plus 1pt\nglue 3pt\nbox p8 7pt 2pt\nglue 0pt plus 1pt\nglue 3pt\nbox p9 7pt 2pt\nnote idx\nglue 0pt plus 1pt\nglue 3pt\nbox p10 7pt 2pt\nglue 0pt plus 1pt\nglue 3pt\nbox p11 7pt 2pt\nglue 0pt plus 1pt\nglue 3pt\nbox p12 7pt 2pt\nend\n") ≡ codes "report 1\npage 1 one\ncolumn 1 text height 36044800 natural 24454758 set stretch fil 11590042/65543\nfloat figA 1 top 0 6553600\nbox p1 8060928 458752 131072\nbox p2 8847360 458752 131072\nbox p3 9633792 458752 131072\nbox p4 10420224 458752 131072\nbox p5 11206656 458752 131072\nbox p6 11993088 458752 131072\nfloat tabA 2 here 13369344 3932160\nbox p7 18284544 458752 131072\nbox p8 19070976 458752 131072\nbox p9 19857408 458752 131072\nnote idx 20447232\nbox p10 20643840 458752 131072\nbox p11 21430272 458752 131072\nbox p12 22216704 458752 131072\nfootrule 34788548 26214 0\nbox f1 34985156 435814 186778\nbox f2 35607748 435814 186778\nend pages 1 boxes 14 floats 2 warnings 0\n"
unfolding reported
article_page = refl

pool_full_at_a_float : ending (codes "galley 1\nset textheight 100\nset topskip 10\nset maxdepth 0\nset baselineskip 0\nset bottom flush\nset skipfootins 0\nset footsplittop 10\nset intextsep 0\nset textfloatsep 0\nset floatsep 0\nset fptop 0\nset fpsep 0\nset fpbot 0\nset dbltextfloatsep 0\nset pool 2\nbox a 60 0\nfloat F 1 single b 50 par\nfloat G 1 single b 50 par\nnewpage\nbox b 10 0\nfloat H 1 single b 50 par\nend\n") ≡ pool_full 22 2
unfolding ending
pool_full_at_a_float = refl

pool_full_at_a_note : ending (codes "galley 1\nset textheight 100\nset topskip 10\nset maxdepth 0\nset baselineskip 0\nset bottom flush\nset skipfootins 0\nset footsplittop 10\nset intextsep 0\nset textfloatsep 0\nset floatsep 0\nset fptop 0\nset fpsep 0\nset fpbot 0\nset dbltextfloatsep 0\nset pool 2\nbox a 60 0\nfloat F 1 single b 50 par\nmargin m 5 0 5 0 par\nend\n") ≡ pool_full 19 1
unfolding ending
pool_full_at_a_note = refl

ends_in_dead_cycles : ending (codes "galley 1\nset textheight 100\nset topskip 10\nset maxdepth 0\nset baselineskip 0\nset bottom flush\nset skipfootins 0\nset footsplittop 10\nset intextsep 0\nset textfloatsep 0\nset floatsep 0\nset fptop 0\nset fpsep 0\nset fpbot 0\nset dbltextfloatsep 0\nset maxdeadcycles 4\nbox a 10 0\nfloat F 1 single p 60 par\nfloat G 1 single p 60 par\nfloat H 1 single p 60 par\nend\n") ≡ dead_cycles 4
unfolding ending
ends_in_dead_cycles = refl

boxes_in_order : boxes_shipped (codes "galley 1\nset textheight 100\nset topskip 10\nset maxdepth 0\nset baselineskip 0\nset bottom flush\nset skipfootins 0\nset footsplittop 10\nset intextsep 0\nset textfloatsep 0\nset floatsep 0\nset fptop 0\nset fpsep 0\nset fpbot 0\nset dbltextfloatsep 0\nbox a 40 0\nglue 0 plus 60\npenalty -9999\nbox b 10 0\nfloat F 1 single h 20 par\nbox c 10 0\nfloat G 1 single b 10 par\nbox d 20 0\nend\n") ≡ 16 ∷ 19 ∷ 21 ∷ 23 ∷ []
unfolding boxes_shipped
boxes_in_order = refl

first_float_was_carried : carried 20 (codes "galley 1\nset textheight 100\nset topskip 10\nset maxdepth 0\nset baselineskip 0\nset bottom flush\nset skipfootins 0\nset footsplittop 10\nset intextsep 0\nset textfloatsep 0\nset floatsep 0\nset fptop 0\nset fpsep 0\nset fpbot 0\nset dbltextfloatsep 0\nbox a 40 0\nglue 0 plus 60\npenalty -9999\nbox b 10 0\nfloat F 1 single h 20 par\nbox c 10 0\nfloat G 1 single b 10 par\nbox d 20 0\nend\n") ≡ true
unfolding carried
first_float_was_carried = refl

second_float_was_not : carried 22 (codes "galley 1\nset textheight 100\nset topskip 10\nset maxdepth 0\nset baselineskip 0\nset bottom flush\nset skipfootins 0\nset footsplittop 10\nset intextsep 0\nset textfloatsep 0\nset floatsep 0\nset fptop 0\nset fpsep 0\nset fpbot 0\nset dbltextfloatsep 0\nbox a 40 0\nglue 0 plus 60\npenalty -9999\nbox b 10 0\nfloat F 1 single h 20 par\nbox c 10 0\nfloat G 1 single b 10 par\nbox d 20 0\nend\n") ≡ false
unfolding carried
second_float_was_not = refl

-- the canonical text
abbrev printed_text : List ℕ → List ℕ
unfolding printed digits default_params row_of word_of
printed_text input = printed (galley_read input)

canonical_text : printed_text (codes "galley 1\nset textheight 100\nset topskip 10\nset maxdepth 0\nset baselineskip 0\nset bottom flush\nset skipfootins 0\nset footsplittop 10\nset intextsep 0\nset textfloatsep 0\nset floatsep 0\nset fptop 0\nset fpsep 0\nset fpbot 0\nset dbltextfloatsep 0\nbox a 40 0\nglue 0 plus 60\npenalty -9999\nbox b 10 0\nfloat F 1 single h 20 par\nbox c 10 0\nfloat G 1 single b 10 par\nbox d 20 0\nend\n") ≡ codes "galley 1\nset textheight 100\nset topskip 10\nset maxdepth 0\nset baselineskip 0\nset bottom flush\nset topnumber 2\nset bottomnumber 1\nset totalnumber 3\nset dbltopnumber 2\nset topfraction 45875/65536\nset bottomfraction 19661/65536\nset textfraction 13107/65536\nset floatpagefraction 32768/65536\nset dbltopfraction 45875/65536\nset dblfloatpagefraction 32768/65536\nset floatsep 0 plus 0 minus 0\nset textfloatsep 0 plus 0 minus 0\nset intextsep 0 plus 0 minus 0\nset dblfloatsep 786432 plus 131072 minus 131072\nset dbltextfloatsep 0 plus 0 minus 0\nset fptop 0 plus 0 minus 0\nset fpsep 0 plus 0 minus 0\nset fpbot 0 plus 0 minus 0\nset dblfptop 0 plus 65536sfil minus 0\nset dblfpsep 524288 plus 131072sfil minus 0\nset dblfpbot 0 plus 65536sfil minus 0\nset skipfootins 0 plus 0 minus 0\nset footlimit 37890293\nset footsplittop 10\nset footsplitdepth 186778\nset footfloating 20000\nset splittopskip 655360\nset splitmaxdepth 1073741823\nset floatingpenalty 0\nset interlinepenalty 0\nset parskip 0 plus 65536 minus 0\nset marginparpush 327680\nset mparswitch off\nset reversemargin off\nset pool 18\nset maxdeadcycles 100\nset maxpages 1000000\nset maxnodes 4194304\nbox a 40 0\nglue 0 plus 60 minus 0\npenalty -9999\nbox b 10 0\nfloat F 1 single h 20 par\nbox c 10 0\nfloat G 1 single b 10 par\nbox d 20 0\nend\n"
unfolding printed_text
canonical_text = refl

canonical_text_again : printed_text (codes "galley 1\nset textheight 100\nset topskip 10\nset maxdepth 0\nset baselineskip 0\nset bottom flush\nset topnumber 2\nset bottomnumber 1\nset totalnumber 3\nset dbltopnumber 2\nset topfraction 45875/65536\nset bottomfraction 19661/65536\nset textfraction 13107/65536\nset floatpagefraction 32768/65536\nset dbltopfraction 45875/65536\nset dblfloatpagefraction 32768/65536\nset floatsep 0 plus 0 minus 0\nset textfloatsep 0 plus 0 minus 0\nset intextsep 0 plus 0 minus 0\nset dblfloatsep 786432 plus 131072 minus 131072\nset dbltextfloatsep 0 plus 0 minus 0\nset fptop 0 plus 0 minus 0\nset fpsep 0 plus 0 minus 0\nset fpbot 0 plus 0 minus 0\nset dblfptop 0 plus 65536sfil minus 0\nset dblfpsep 524288 plus 131072sfil minus 0\nset dblfpbot 0 plus 65536sfil minus 0\nset skipfootins 0 plus 0 minus 0\nset footlimit 37890293\nset footsplittop 10\nset footsplitdepth 186778\nset footfloating 20000\nset splittopskip 655360\nset splitmaxdepth 1073741823\nset floatingpenalty 0\nset interlinepenalty 0\nset parskip 0 plus 65536 minus 0\nset marginparpush 327680\nset mparswitch off\nset reversemargin off\nset pool 18\nset maxdeadcycles 100\nset maxpages 1000000\nset maxnodes 4194304\nbox a 40 0\nglue 0 plus 60 minus 0\npenalty -9999\nbox b 10 0\nfloat F 1 single h 20 par\nbox c 10 0\nfloat G 1 single b 10 par\nbox d 20 0\nend\n") ≡ codes "galley 1\nset textheight 100\nset topskip 10\nset maxdepth 0\nset baselineskip 0\nset bottom flush\nset topnumber 2\nset bottomnumber 1\nset totalnumber 3\nset dbltopnumber 2\nset topfraction 45875/65536\nset bottomfraction 19661/65536\nset textfraction 13107/65536\nset floatpagefraction 32768/65536\nset dbltopfraction 45875/65536\nset dblfloatpagefraction 32768/65536\nset floatsep 0 plus 0 minus 0\nset textfloatsep 0 plus 0 minus 0\nset intextsep 0 plus 0 minus 0\nset dblfloatsep 786432 plus 131072 minus 131072\nset dbltextfloatsep 0 plus 0 minus 0\nset fptop 0 plus 0 minus 0\nset fpsep 0 plus 0 minus 0\nset fpbot 0 plus 0 minus 0\nset dblfptop 0 plus 65536sfil minus 0\nset dblfpsep 524288 plus 131072sfil minus 0\nset dblfpbot 0 plus 65536sfil minus 0\nset skipfootins 0 plus 0 minus 0\nset footlimit 37890293\nset footsplittop 10\nset footsplitdepth 186778\nset footfloating 20000\nset splittopskip 655360\nset splitmaxdepth 1073741823\nset floatingpenalty 0\nset interlinepenalty 0\nset parskip 0 plus 65536 minus 0\nset marginparpush 327680\nset mparswitch off\nset reversemargin off\nset pool 18\nset maxdeadcycles 100\nset maxpages 1000000\nset maxnodes 4194304\nbox a 40 0\nglue 0 plus 60 minus 0\npenalty -9999\nbox b 10 0\nfloat F 1 single h 20 par\nbox c 10 0\nfloat G 1 single b 10 par\nbox d 20 0\nend\n"
unfolding printed_text
canonical_text_again = refl

canonical_text_of_version_2 : printed_text (codes "galley 2\nset release 2014\nclass 7 500 100000 3 plus 2fil\nset pool 4\nclass 3 1000 20 0 minus 4\nclass 7 0 5pt 1 plus 2 minus 3\nbox a 10 0\nfoot 7\nbox f 5 0\nendfoot\nfoot\nglue 1\nendfoot\nfoot 3\nendfoot\nfloat W 1 double t!h 5 vert\nend\n") ≡ codes "galley 2\nset textheight 36044800\nset topskip 655360\nset maxdepth 327680\nset baselineskip 786432\nset bottom ragged\nset topnumber 2\nset bottomnumber 1\nset totalnumber 3\nset dbltopnumber 2\nset topfraction 45875/65536\nset bottomfraction 19661/65536\nset textfraction 13107/65536\nset floatpagefraction 32768/65536\nset dbltopfraction 45875/65536\nset dblfloatpagefraction 32768/65536\nset floatsep 786432 plus 131072 minus 131072\nset textfloatsep 1310720 plus 131072 minus 262144\nset intextsep 786432 plus 131072 minus 131072\nset dblfloatsep 786432 plus 131072 minus 131072\nset dbltextfloatsep 1310720 plus 131072 minus 262144\nset fptop 0 plus 65536sfil minus 0\nset fpsep 524288 plus 131072sfil minus 0\nset fpbot 0 plus 65536sfil minus 0\nset dblfptop 0 plus 65536sfil minus 0\nset dblfpsep 524288 plus 131072sfil minus 0\nset dblfpbot 0 plus 65536sfil minus 0\nset skipfootins 589824 plus 262144 minus 131072\nset footlimit 37890293\nset footsplittop 435814\nset footsplitdepth 186778\nset footfloating 20000\nset splittopskip 655360\nset splitmaxdepth 1073741823\nset floatingpenalty 0\nset interlinepenalty 0\nset parskip 0 plus 65536 minus 0\nset marginparpush 327680\nset mparswitch off\nset reversemargin off\nset pool 4\nset maxdeadcycles 100\nset maxpages 1000000\nset maxnodes 4194304\nset release 2014\nclass 3 1000 20 0 plus 0 minus 4\nclass 7 0 327680 1 plus 2 minus 3\nbox a 10 0\nfoot 7\nbox f 5 0\nendfoot\nfoot 254\nglue 1 plus 0 minus 0\nendfoot\nfoot 3\nendfoot\nfloat W 1 double !ht 5 vert\nend\n"
unfolding printed_text
canonical_text_of_version_2 = refl

canonical_text_of_version_2_again : printed_text (codes "galley 2\nset textheight 36044800\nset topskip 655360\nset maxdepth 327680\nset baselineskip 786432\nset bottom ragged\nset topnumber 2\nset bottomnumber 1\nset totalnumber 3\nset dbltopnumber 2\nset topfraction 45875/65536\nset bottomfraction 19661/65536\nset textfraction 13107/65536\nset floatpagefraction 32768/65536\nset dbltopfraction 45875/65536\nset dblfloatpagefraction 32768/65536\nset floatsep 786432 plus 131072 minus 131072\nset textfloatsep 1310720 plus 131072 minus 262144\nset intextsep 786432 plus 131072 minus 131072\nset dblfloatsep 786432 plus 131072 minus 131072\nset dbltextfloatsep 1310720 plus 131072 minus 262144\nset fptop 0 plus 65536sfil minus 0\nset fpsep 524288 plus 131072sfil minus 0\nset fpbot 0 plus 65536sfil minus 0\nset dblfptop 0 plus 65536sfil minus 0\nset dblfpsep 524288 plus 131072sfil minus 0\nset dblfpbot 0 plus 65536sfil minus 0\nset skipfootins 589824 plus 262144 minus 131072\nset footlimit 37890293\nset footsplittop 435814\nset footsplitdepth 186778\nset footfloating 20000\nset splittopskip 655360\nset splitmaxdepth 1073741823\nset floatingpenalty 0\nset interlinepenalty 0\nset parskip 0 plus 65536 minus 0\nset marginparpush 327680\nset mparswitch off\nset reversemargin off\nset pool 4\nset maxdeadcycles 100\nset maxpages 1000000\nset maxnodes 4194304\nset release 2014\nclass 3 1000 20 0 plus 0 minus 4\nclass 7 0 327680 1 plus 2 minus 3\nbox a 10 0\nfoot 7\nbox f 5 0\nendfoot\nfoot 254\nglue 1 plus 0 minus 0\nendfoot\nfoot 3\nendfoot\nfloat W 1 double !ht 5 vert\nend\n") ≡ codes "galley 2\nset textheight 36044800\nset topskip 655360\nset maxdepth 327680\nset baselineskip 786432\nset bottom ragged\nset topnumber 2\nset bottomnumber 1\nset totalnumber 3\nset dbltopnumber 2\nset topfraction 45875/65536\nset bottomfraction 19661/65536\nset textfraction 13107/65536\nset floatpagefraction 32768/65536\nset dbltopfraction 45875/65536\nset dblfloatpagefraction 32768/65536\nset floatsep 786432 plus 131072 minus 131072\nset textfloatsep 1310720 plus 131072 minus 262144\nset intextsep 786432 plus 131072 minus 131072\nset dblfloatsep 786432 plus 131072 minus 131072\nset dbltextfloatsep 1310720 plus 131072 minus 262144\nset fptop 0 plus 65536sfil minus 0\nset fpsep 524288 plus 131072sfil minus 0\nset fpbot 0 plus 65536sfil minus 0\nset dblfptop 0 plus 65536sfil minus 0\nset dblfpsep 524288 plus 131072sfil minus 0\nset dblfpbot 0 plus 65536sfil minus 0\nset skipfootins 589824 plus 262144 minus 131072\nset footlimit 37890293\nset footsplittop 435814\nset footsplitdepth 186778\nset footfloating 20000\nset splittopskip 655360\nset splitmaxdepth 1073741823\nset floatingpenalty 0\nset interlinepenalty 0\nset parskip 0 plus 65536 minus 0\nset marginparpush 327680\nset mparswitch off\nset reversemargin off\nset pool 4\nset maxdeadcycles 100\nset maxpages 1000000\nset maxnodes 4194304\nset release 2014\nclass 3 1000 20 0 plus 0 minus 4\nclass 7 0 327680 1 plus 2 minus 3\nbox a 10 0\nfoot 7\nbox f 5 0\nendfoot\nfoot 254\nglue 1 plus 0 minus 0\nendfoot\nfoot 3\nendfoot\nfloat W 1 double !ht 5 vert\nend\n"
unfolding printed_text
canonical_text_of_version_2_again = refl

-- a blank first column that is kept at a change of columns, and at the end of a run
kept_at_change : reported (codes "galley 1\nset textheight 100\nset topskip 10\nset maxdepth 0\nset bottom flush\nset skipfootins 0\nset footsplittop 10\nset intextsep 0\nset textfloatsep 0\nset floatsep 0\nset fptop 0\nset fpsep 0\nset fpbot 0\nset dbltextfloatsep 0\nset baselineskip 20\nset footlimit 5\ntwocolumn\nfloat W 1 double !t 90 par\nbox a 10 0\nfoot\nbox f 5 0\npenalty 0\nbox k 5 0\nendfoot\ntwocolumn\nbox b 10 0\nend\n") ≡ codes "report 1\npage 1 two at 0\ncolumn 1 text height 100 natural 15 set stretch fil 85/65536\nbox a 0 10 0\nfootrule -196513 26214 0\nbox f 95 5 0\ncolumn 2 text height 100 natural 20 set stretch fil 80/65536\nfootrule -196518 26214 0\nbox k 95 5 0\nwarn floats 2\npage 2 wide\ncolumn 1 floats height 100 natural 90 set stretch fil 10/131072\nfloat W 1 page 5 90\npage 3 two at 0\ncolumn 1 text height 100 natural 10 set stretch fil 90/65536\nbox b 0 10 0\ncolumn 2 text height 100 natural 10 set stretch fil 90/65536\nend pages 3 boxes 4 floats 1 warnings 1\n"
unfolding reported
kept_at_change = refl

kept_at_end : reported (codes "galley 1\nset textheight 100\nset topskip 10\nset maxdepth 0\nset bottom flush\nset skipfootins 0\nset footsplittop 10\nset intextsep 0\nset textfloatsep 0\nset floatsep 0\nset fptop 0\nset fpsep 0\nset fpbot 0\nset dbltextfloatsep 0\nset baselineskip 20\nset footlimit 5\ntwocolumn\nfloat W 1 double !t 90 par\nbox a 10 0\nfoot\nbox f 5 0\npenalty 0\nbox k 5 0\nendfoot\nend\n") ≡ codes "report 1\npage 1 two at 0\ncolumn 1 text height 100 natural 15 set stretch fil 85/65536\nbox a 0 10 0\nfootrule -196513 26214 0\nbox f 95 5 0\ncolumn 2 text height 100 natural 20 set stretch fil 80/65536\nfootrule -196518 26214 0\nbox k 95 5 0\nwarn floats 2\npage 2 wide\ncolumn 1 floats height 100 natural 90 set stretch fil 10/131072\nfloat W 1 page 5 90\nend pages 2 boxes 3 floats 1 warnings 1\n"
unfolding reported
kept_at_end = refl

-- ---- version 2

class_of_factor_500 : reported (codes "galley 2\nset textheight 40000\nset topskip 10\nset maxdepth 0\nset baselineskip 0\nset bottom flush\nset skipfootins 0\nset footsplittop 10\nset intextsep 0\nset textfloatsep 0\nset floatsep 0\nset fptop 0\nset fpsep 0\nset fpbot 0\nset dbltextfloatsep 0\nclass 3 500 100000 0\nbox a 10000 0\nfoot 3\nbox f 20000 0\nendfoot\nend\n") ≡ codes "report 1\npage 1 one\ncolumn 1 text height 40000 natural 30000 set stretch fil 10000/65536\nbox a 0 10000 0\nbox f 20000 20000 0\nend pages 1 boxes 2 floats 0 warnings 0\n"
unfolding reported
class_of_factor_500 = refl

class_of_factor_500_traced : traced (codes "galley 2\nset textheight 40000\nset topskip 10\nset maxdepth 0\nset baselineskip 0\nset bottom flush\nset skipfootins 0\nset footsplittop 10\nset intextsep 0\nset textfloatsep 0\nset floatsep 0\nset fptop 0\nset fpsep 0\nset fpbot 0\nset dbltextfloatsep 0\nclass 3 500 100000 0\nbox a 10000 0\nfoot 3\nbox f 20000 0\nendfoot\nend\n") ≡ codes "report 1\ntry 21 t 10000 s 0 0 0 0 z 0 g 30000 b 10000 p 0 c 100000 #\ntry 21 t 10000 s 0 65536 0 0 z 0 g 30000 b 0 p -10000 c -10000 #\npage 1 one\ncolumn 1 text height 40000 natural 30000 set stretch fil 10000/65536\nbox a 0 10000 0\nbox f 20000 20000 0\ntry 21 t 0 s 0 0 0 0 z 0 g 40000 b 10000 p 0 c 100000 #\ntry 21 t 10 s 0 0 0 0 z 0 g 40000 b 10000 p -10001 c -10001 #\nend pages 1 boxes 2 floats 0 warnings 0\n"
unfolding traced
class_of_factor_500_traced = refl

two_classes_in_a_column : reported (codes "galley 2\nset textheight 40\nset topskip 10\nset maxdepth 0\nset baselineskip 0\nset bottom flush\nset skipfootins 0\nset footsplittop 10\nset intextsep 0\nset textfloatsep 0\nset floatsep 0\nset fptop 0\nset fpsep 0\nset fpbot 0\nset dbltextfloatsep 0\nclass 3 1000 1000 0\nbox a 10 0\nfoot\nbox f 10 0\nendfoot\nfoot 3\nbox g 10 0\nendfoot\nend\n") ≡ codes "report 1\npage 1 one\ncolumn 1 text height 40 natural 30 set stretch fil 10/65536\nbox a 0 10 0\nbox g 20 10 0\nfootrule -196578 26214 0\nbox f 30 10 0\nend pages 1 boxes 3 floats 0 warnings 0\n"
unfolding reported
two_classes_in_a_column = refl

double_float_waits_by_itself : reported (codes "galley 2\nset textheight 100\nset topskip 10\nset maxdepth 0\nset baselineskip 0\nset bottom flush\nset skipfootins 0\nset footsplittop 10\nset intextsep 0\nset textfloatsep 0\nset floatsep 0\nset fptop 0\nset fpsep 0\nset fpbot 0\nset dbltextfloatsep 0\nset release 2014\ntwocolumn\nbox a 20 0\nfloat W 1 double t 30 par\nfloat S 1 single ht 20 par\nnewpage\nbox b 10 0\nnewpage\nbox c 10 0\nend\n") ≡ codes "report 1\npage 1 two at 0\ncolumn 1 text height 100 natural 40 set stretch fil 60/65536\nbox a 0 20 0\nfloat S 1 here 20 20\ncolumn 2 text height 100 natural 10 set stretch fil 90/65536\nbox b 0 10 0\npage 2 two at 30\nfloat W 1 wide 0 30\ncolumn 1 text height 70 natural 10 set stretch fil 60/65536\nbox c 0 10 0\ncolumn 2 text height 70 natural 10 set stretch fil 60/65536\nend pages 2 boxes 3 floats 2 warnings 0\n"
unfolding reported
double_float_waits_by_itself = refl

release_2015_is_as_before : reported (codes "galley 2\nset textheight 100\nset topskip 10\nset maxdepth 0\nset baselineskip 0\nset bottom flush\nset skipfootins 0\nset footsplittop 10\nset intextsep 0\nset textfloatsep 0\nset floatsep 0\nset fptop 0\nset fpsep 0\nset fpbot 0\nset dbltextfloatsep 0\nset release 2015\ntwocolumn\nbox a 20 0\nfloat W 1 double t 30 par\nfloat S 1 single ht 20 par\nnewpage\nbox b 10 0\nnewpage\nbox c 10 0\nend\n") ≡ codes "report 1\npage 1 two at 0\ncolumn 1 text height 100 natural 20 set stretch fil 80/65536\nbox a 0 20 0\ncolumn 2 text height 100 natural 10 set stretch fil 90/65536\nbox b 0 10 0\npage 2 two at 30\nfloat W 1 wide 0 30\ncolumn 1 text height 70 natural 30 set stretch fil 40/65536\nfloat S 1 top 0 20\nbox c 20 10 0\ncolumn 2 text height 70 natural 10 set stretch fil 60/65536\nend pages 2 boxes 3 floats 2 warnings 0\n"
unfolding reported
release_2015_is_as_before = refl

-- a footnote of a class that was not declared, a release that does not exist, and what version 1 does not know
spelled : List ℕ → Result Galley Fault
unfolding grammar row_of word_of default_params
spelled input = grammar input

undeclared_class : spelled (codes "galley 2\nfoot 4\nendfoot\nend\n") ≡ Err (fault 2 2 causes.Class)
unfolding spelled grammar row_of word_of default_params
undeclared_class = refl

unknown_release : spelled (codes "galley 2\nset textheight 100\nset topskip 10\nset maxdepth 0\nset baselineskip 0\nset bottom flush\nset skipfootins 0\nset footsplittop 10\nset intextsep 0\nset textfloatsep 0\nset floatsep 0\nset fptop 0\nset fpsep 0\nset fpbot 0\nset dbltextfloatsep 0\nset release 2013\nend\n") ≡ Err (fault 16 3 causes.WrongForm)
unfolding spelled grammar row_of word_of default_params
unknown_release = refl

release_in_version_1 : spelled (codes "galley 1\nset release 2015\nend\n") ≡ Err (fault 2 2 causes.UnknownParameter)
unfolding spelled grammar row_of word_of default_params
release_in_version_1 = refl

class_of_a_foot_in_version_1 : spelled (codes "galley 1\nfoot 254\nendfoot\nend\n") ≡ Err (fault 2 2 causes.ExtraField)
unfolding spelled grammar row_of word_of default_params
class_of_a_foot_in_version_1 = refl

version_4 : spelled (codes "galley 4\nend\n") ≡ Err (fault 1 2 causes.NoHeader)
unfolding spelled grammar row_of word_of default_params
version_4 = refl
