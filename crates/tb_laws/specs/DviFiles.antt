-- The DVI file of a run.
use Rattle.std.specs.Prelude.{◌≡◌, ◌≤◌, ℕ, ℤ, Bool, true, false, List, length, Option, None, Ok}
use Rattle.tb_galley.specs.declared.Galley.{Galley}
use Rattle.tb_dvi.specs.File.{first_too_far}
use Rattle.tb_dvi.specs.Progress.{run_bytes}
use Rattle.tb_dvi.specs.Machine.{listed}
use Rattle.tb_dvi.specs.Listing.{pages_items}
use Rattle.tb_steps.specs.Run.{Run, End, done, run_of}
use Rattle.tb_laws.specs.DviPages.{run_pages}

-- the run ends well
abbrev pub is_done : End → Bool
is_done (done left) = true
is_done _ = false

-- the DVI file of a run: the pages before the first out of range, if there is one; else all, and the end of the file if the run ended well
abbrev pub dvi_file : ℤ → Run → List ℕ
dvi_file textheight r = run_bytes textheight (run_pages r) (is_done r.end)

-- the number of the first page out of range, if there is one
abbrev pub far_page : Galley → Option ℕ
far_page g = first_too_far 27 (run_pages (run_of g))

-- what is written of a galley's run
abbrev pub galley_file : Galley → List ℕ
galley_file g = dvi_file g.params.textheight (run_of g)

-- if each page is in range and the file has at most 8388608 bytes, it lists exactly the placements of the run, page by page
abbrev pub FileListsPages : Galley → Type 0
FileListsPages g = far_page g ≡ None → length (galley_file g) ≤ 8388608 → listed (galley_file g) ≡ Ok (pages_items (run_pages (run_of g)))
