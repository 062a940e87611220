-- One value for each list of the pool. No public clause cites this module.
use Rattle.tb_float.specs.declared.Part.{Part}
use Rattle.tb_float.specs.declared.Part.TheVariants as parts
use Rattle.tb_float.specs.declared.by_part.ByPart.{ByPart}

-- the value of a list
abbrev pub of_part : {T : Type 0} → ByPart T → Part → T
of_part r parts.Current = r.current
of_part r parts.Here = r.here
of_part r parts.Top = r.top
of_part r parts.Bottom = r.bottom
of_part r parts.Deferred = r.deferred
of_part r parts.Double = r.double
of_part r parts.Second = r.second

-- another value for a list
abbrev pub with_part : {T : Type 0} → Part → T → ByPart T → ByPart T
with_part parts.Current x r = record r { current = x }
with_part parts.Here x r = record r { here = x }
with_part parts.Top x r = record r { top = x }
with_part parts.Bottom x r = record r { bottom = x }
with_part parts.Deferred x r = record r { deferred = x }
with_part parts.Double x r = record r { double = x }
with_part parts.Second x r = record r { second = x }
