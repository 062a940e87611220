-- The lister's machine: what the commands of a DVI file list, or the first that fails.
use Rattle.std.specs.Prelude.{ℕ, zero, suc, ◌+◌, ◌-◌, ◌*◌, ◌%◌, ◌^◌, ℤ, pos, ◌+ℤ◌, ◌-ℤ◌, Bool, true, false, not, ◌&&◌, ◌==◌, nat_lt, if◌then◌else◌, List, [], ◌∷◌, ◌++◌, length, take, drop, slice_index_or, Option, Some, None, Result, Ok, Err}
use Rattle.std.specs.List.{list_all}
use Rattle.tb_dvi.specs.declared.DviCause.{DviCause}
use Rattle.tb_dvi.specs.declared.DviCause.TheVariants as causes
use Rattle.tb_dvi.specs.declared.command.Slot.{Slot}
use Rattle.tb_dvi.specs.declared.command.Slot.TheVariants as slots
use Rattle.tb_dvi.specs.declared.command.Op.{Op}
use Rattle.tb_dvi.specs.declared.command.Op.TheVariants as ops
use Rattle.tb_dvi.specs.declared.command.Registers.{Registers}
use Rattle.tb_dvi.specs.declared.command.Mode.{Mode}
use Rattle.tb_dvi.specs.declared.command.Mode.TheVariants as modes

-- what is listed: a page with its first number, a special at its place, a rule, and at the end how many pages there are
pub data Item : Type 0 where
  opened : ℤ → Item
  special : ℤ → ℤ → List ℕ → Item
  ruled : ℤ → ℤ → ℤ → ℤ → Item
  ended : ℕ → Item

-- a refusal: the place of the command, from 0, and why
pub record Fault : Type 0 where
  pub byte : ℕ
  pub cause : DviCause

-- the machine: no page, a page, or after a postamble; the stack, its top first; how many pages were opened
pub record State : Type 0 where
  pub mode : Mode
  pub stack : List Registers
  pub pages : ℕ

-- what a command does: it fails; it takes this many bytes after its first, lists, and leaves a state; or the file ends well
pub data Step : Type 0 where
  fails : DviCause → Step
  goes : ℕ → List Item → State → Step
  ends : Step

-- ---- numbers

-- a number, the highest byte first, after these higher bytes
abbrev pub number_after : ℕ → List ℕ → ℕ
number_after high [] = high
number_after high (b ∷ bs) = number_after (high * 256 + b) bs

-- a number without sign
abbrev pub unsigned_number : List ℕ → ℕ
unsigned_number bs = number_after 0 bs

-- a number of two's complement
abbrev pub signed_number : List ℕ → ℤ
signed_number bs = if nat_lt (slice_index_or bs 0 0) 128 then pos (unsigned_number bs) else pos (unsigned_number bs) -ℤ pos (256 ^ length bs)

-- ---- commands

-- the command that a byte begins
abbrev pub op_of : ℕ → Op
op_of b =
    if nat_lt b 132 then ops.Font
    else (if b == 132 then ops.Rule true
    else (if nat_lt b 137 then ops.Font
    else (if b == 137 then ops.Rule false
    else (if b == 138 then ops.Idle
    else (if b == 139 then ops.Opens
    else (if b == 140 then ops.Closes
    else (if b == 141 then ops.Pushes
    else (if b == 142 then ops.Pops
    else (if nat_lt b 147 then ops.Moves slots.Right (b - 142)
    else (if nat_lt b 152 then ops.Moves slots.W (b - 147)
    else (if nat_lt b 157 then ops.Moves slots.X (b - 152)
    else (if nat_lt b 161 then ops.Moves slots.Down (b - 156)
    else (if nat_lt b 166 then ops.Moves slots.Y (b - 161)
    else (if nat_lt b 171 then ops.Moves slots.Z (b - 166)
    else (if nat_lt b 239 then ops.Font
    else (if nat_lt b 243 then ops.Special (b - 238)
    else (if nat_lt b 247 then ops.Font
    else (if b == 248 then ops.Post
    else (if b == 249 then ops.PostPost else ops.Unknown)))))))))))))))))))

-- a character or a font
abbrev pub is_font : Op → Bool
is_font ops.Font = true
is_font _ = false

-- whether a command may come on a page
abbrev pub is_due_on_page : Op → Bool
is_due_on_page ops.Unknown = false
is_due_on_page ops.Opens = false
is_due_on_page ops.Post = false
is_due_on_page ops.PostPost = false
is_due_on_page _ = true

-- whether a command may come between pages
abbrev pub is_due_between : Op → Bool
is_due_between ops.Idle = true
is_due_between ops.Opens = true
is_due_between ops.Post = true
is_due_between _ = false

-- whether a command is looked at after a postamble
abbrev pub is_due_after_post : Op → Bool
is_due_after_post ops.PostPost = true
is_due_after_post op = is_due_between op

-- whether a command may come here
abbrev pub is_due : Op → Mode → Bool
is_due op modes.Between = is_due_between op
is_due op (modes.OnPage r) = is_due_on_page op
is_due op (modes.AfterPost p) = is_due_after_post op

-- how many bytes a command has after its first, if these follow
abbrev pub op_size : Op → List ℕ → ℕ
op_size ops.Font args = 0
op_size ops.Unknown args = 0
op_size (ops.Rule moves) args = 8
op_size ops.Idle args = 0
op_size ops.Opens args = 44
op_size ops.Closes args = 0
op_size ops.Pushes args = 0
op_size ops.Pops args = 0
op_size (ops.Moves slot size) args = size
op_size (ops.Special size) args = size + unsigned_number (take size args)
op_size ops.Post args = 28
op_size ops.PostPost args = 5

-- ---- what a command does

-- a register after a move with a number of this many bytes: the number, or as it was if there is none
abbrev pub set_register : ℕ → List ℕ → ℤ → ℤ
set_register zero args old = old
set_register (suc k) args old = signed_number (take (suc k) args)

-- the registers after a move
abbrev pub moved : Slot → ℕ → List ℕ → Registers → Registers
moved slots.Right size args r = record r { h = r.h +ℤ signed_number (take size args) }
moved slots.W size args r = record r { h = r.h +ℤ set_register size args r.w; w = set_register size args r.w }
moved slots.X size args r = record r { h = r.h +ℤ set_register size args r.x; x = set_register size args r.x }
moved slots.Down size args r = record r { v = r.v +ℤ signed_number (take size args) }
moved slots.Y size args r = record r { v = r.v +ℤ set_register size args r.y; y = set_register size args r.y }
moved slots.Z size args r = record r { v = r.v +ℤ set_register size args r.z; z = set_register size args r.z }

-- the registers of a page that opens
abbrev pub no_registers : Registers
no_registers = record { h = pos 0; v = pos 0; w = pos 0; x = pos 0; y = pos 0; z = pos 0 }

-- the registers after a rule of this width
abbrev pub past_rule : Bool → ℤ → Registers → Registers
past_rule moves width r = if moves then record r { h = r.h +ℤ width } else r

-- a page goes on with these registers, after this many bytes
abbrev pub on_page : ℕ → List Item → Registers → State → Step
on_page size items r s = goes size items (record s { mode = modes.OnPage r })

-- a pop of this stack
abbrev pub pops : List Registers → State → Step
pops [] s = fails causes.Unbalanced
pops (r ∷ rs) s = goes 0 [] (record s { mode = modes.OnPage r; stack = rs })

-- whether a stack is empty
abbrev pub is_empty : List Registers → Bool
is_empty [] = true
is_empty (r ∷ rs) = false

-- the end of a page
abbrev pub closes : State → Step
closes s = if is_empty s.stack then goes 0 [] (record s { mode = modes.Between }) else fails causes.Unbalanced

-- a command on a page with these registers
abbrev pub page_step : Op → List ℕ → Registers → State → Step
page_step (ops.Rule moves) args r s =
    let height = signed_number (take 4 args) in
    let width = signed_number (take 4 (drop 4 args)) in
    on_page 8 (ruled r.h r.v height width ∷ []) (past_rule moves width r) s
page_step ops.Idle args r s = goes 0 [] s
page_step ops.Closes args r s = closes s
page_step ops.Pushes args r s = goes 0 [] (record s { stack = r ∷ s.stack })
page_step ops.Pops args r s = pops s.stack s
page_step (ops.Moves slot size) args r s = on_page size [] (moved slot size args r) s
page_step (ops.Special size) args r s =
    let n = unsigned_number (take size args) in
    goes (size + n) (special r.h r.v (take n (drop size args)) ∷ []) s
page_step _ args r s = fails causes.BadOp

-- a command at this place between pages
abbrev pub between_step : ℕ → Op → List ℕ → State → Step
between_step place ops.Idle args s = goes 0 [] s
between_step place ops.Opens args s = goes 44 (opened (signed_number (take 4 args)) ∷ []) (record { mode = modes.OnPage no_registers; stack = []; pages = s.pages + 1 })
between_step place ops.Post args s = goes 28 [] (record s { mode = modes.AfterPost place })
between_step place _ args s = fails causes.BadOp

-- whether these bytes fill a file up: at least four bytes 223
abbrev pub is_filling : List ℕ → Bool
is_filling bs = nat_lt 3 (length bs) && list_all (λ b. b == 223) bs

-- whether what follows the byte 249 ends a file of this length whose postamble begins at this place
abbrev pub is_end : ℕ → ℕ → List ℕ → Bool
is_end post total args =
    (unsigned_number (take 4 args) == post) && ((slice_index_or args 4 0 == 2) && (is_filling (drop 5 args) && (total % 4 == 0)))

-- a command at this place after a postamble
abbrev pub end_step : ℕ → ℕ → Op → List ℕ → Step
end_step post place ops.PostPost args = if is_end post (place + 1 + length args) args then ends else fails causes.BadPost
end_step post place _ args = fails causes.BadPost

-- a command that is whole and may come here
abbrev pub whole_step : Mode → ℕ → Op → List ℕ → State → Step
whole_step modes.Between place op args s = between_step place op args s
whole_step (modes.OnPage r) place op args s = page_step op args r s
whole_step (modes.AfterPost post) place op args s = end_step post place op args

-- why a command is refused before it does anything; the causes are tried in their order
abbrev pub refusal : Op → Mode → List ℕ → Option DviCause
refusal op mode args =
    if is_font op then Some causes.Font
    else (if not (is_due op mode) then Some causes.BadOp
    else (if nat_lt (length args) (op_size op args) then Some causes.Truncated else None))

-- a command that is refused, or does this
abbrev pub refused_or : Option DviCause → Step → Step
refused_or None step = step
refused_or (Some cause) step = fails cause

-- a command at this place, and the bytes after its first
abbrev pub op_step : ℕ → Op → List ℕ → State → Step
op_step place op args s = refused_or (refusal op s.mode args) (whole_step s.mode place op args s)

-- ---- a file

-- these items before what is listed after them
abbrev pub before : List Item → Result (List Item) Fault → Result (List Item) Fault
before items (Ok more) = Ok (items ++ more)
before items (Err e) = Err e

-- what follows a command at a place: nothing more, or the rest after this many bytes, in its state
abbrev pub followed : ℕ → ℕ → Step → (ℕ → State → Result (List Item) Fault) → Result (List Item) Fault
followed place pages (fails cause) rest = Err (record { byte = place; cause = cause })
followed place pages (goes size items s) rest = before items (rest size s)
followed place pages ends rest = Ok (ended pages ∷ [])

-- what is listed from a place on, in a state, after this many bytes that a command took
abbrev pub run : ℕ → ℕ → State → List ℕ → Result (List Item) Fault
run skip place s [] = Err (record { byte = place; cause = causes.Truncated })
run (suc skip) place s (b ∷ bs) = run skip (suc place) s bs
run zero place s (b ∷ bs) = followed place s.pages (op_step place (op_of b) bs s) (λ skip s. run skip (suc place) s bs)

-- after the first two bytes: how long the preamble is, to the end of its comment
abbrev pub pre_comment : List ℕ → Result ℕ DviCause
pre_comment bs =
    if nat_lt (length bs) 13 then Err causes.Truncated
    else (if nat_lt (length bs) (13 + slice_index_or bs 12 0) then Err causes.Truncated else Ok (15 + slice_index_or bs 12 0))

-- after the first byte
abbrev pub pre_second : List ℕ → Result ℕ DviCause
pre_second [] = Err causes.Truncated
pre_second (b ∷ bs) = if b == 2 then pre_comment bs else Err causes.BadPre

-- the length of the preamble of a file
abbrev pub pre_length : List ℕ → Result ℕ DviCause
pre_length [] = Err causes.Truncated
pre_length (b ∷ bs) = if b == 247 then pre_second bs else Err causes.BadPre

-- the machine at the end of the preamble
abbrev pub at_start : State
at_start = record { mode = modes.Between; stack = []; pages = 0 }

-- what is listed of a file, whose preamble has this length
abbrev pub listed_after : Result ℕ DviCause → List ℕ → Result (List Item) Fault
listed_after (Ok n) bytes = run n 0 at_start bytes
listed_after (Err cause) bytes = Err (record { byte = 0; cause = cause })

-- what is listed of a file, or its first fault
abbrev pub listed : List ℕ → Result (List Item) Fault
listed bytes = listed_after (pre_length bytes) bytes
