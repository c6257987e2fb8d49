-- Which status is complained of, and the number that the program then ends with.
use Rattle.std.specs.Prelude.{ℕ, Option, Some, None}
use Rattle.script_cut.specs.declared.fault.ScriptFault.{ScriptFault}
use Rattle.script_cut.specs.declared.fault.ScriptFault.TheVariants as faults
use Rattle.script_cut.specs.declared.fault.ScriptFault.TheVariants.{NotUtf8, NoSession, BadName, Repeated, Unended, Limit}
use Rattle.dd_run.specs.declared.complaint.ScriptKind.TheVariants as kinds
use Rattle.dd_run.specs.declared.status.Status.{Status}
use Rattle.dd_run.specs.declared.status.Status.TheVariants as ends
use Rattle.dd_run.specs.declared.complaint.Complaint.{Complaint}
use Rattle.dd_run.specs.declared.complaint.Complaint.TheVariants.{Usage, BadScript, Memory, ReadFault, WriteFault, NotBuilt}

-- the exit status
abbrev pub code_of : Complaint → ℕ
code_of Usage = 2
code_of (BadScript at kind) = 3
code_of Memory = 4
code_of ReadFault = 5
code_of WriteFault = 6
code_of (NotBuilt session number) = 90

-- a fault of a script by its byte and its kind; want of memory is none
abbrev pub bad_script : ScriptFault → Option Complaint
bad_script (NotUtf8 at) = Some (BadScript at kinds.NotUtf8)
bad_script (NoSession at) = Some (BadScript at kinds.NoSession)
bad_script (BadName at) = Some (BadScript at kinds.BadName)
bad_script (Repeated at) = Some (BadScript at kinds.Repeated)
bad_script (Unended at) = Some (BadScript at kinds.Unended)
bad_script (Limit at) = Some (BadScript at kinds.Limit)
bad_script faults.Memory = Some Memory

-- nothing where all was done
abbrev pub complaint_of : Status → Option Complaint
complaint_of ends.Ok = None
complaint_of ends.Usage = Some Usage
complaint_of ends.Memory = Some Memory
complaint_of ends.ReadFault = Some ReadFault
complaint_of ends.WriteFault = Some WriteFault
complaint_of (ends.NotBuilt session number) = Some (NotBuilt session number)
complaint_of (ends.BadScript fault) = bad_script fault
