-- What the calls answer, beside what the definitions do.
use Rattle.std.specs.Prelude.{List, ℕ, ◌≡◌, ◌≢◌, map, String, Vec, string_bytes}
use Rattle.std.specs.declared.alloc.Global.{Global}
use Rattle.std.specs.declared.result.Result.{Result}
use Rattle.std.specs.declared.result.Result.TheVariants.{Ok, Err}
use Rattle.role_routing.specs.declared.fault.RolesFault.{RolesFault}
use Rattle.role_routing.specs.declared.fault.RolesFault.TheVariants as fault
use Rattle.role_routing.specs.Files.{FileFault, Judged, bad_toml, no_guest, unknown_role, twice, bad_form, unknown_entry, memory}

abbrev pub fault_of : RolesFault → FileFault
fault_of fault.BadToml = bad_toml
fault_of fault.NoGuest = no_guest
fault_of (fault.UnknownRole name) = unknown_role (string_bytes name)
fault_of (fault.Twice name) = twice (string_bytes name)
fault_of (fault.BadForm key) = bad_form (string_bytes key)
fault_of (fault.UnknownEntry text) = unknown_entry (string_bytes text)
fault_of fault.Memory = memory

-- a call answers what its definition does, or that memory is short
abbrev pub Gives : {A B : Type 0} → (B → A) → Judged A → Result B RolesFault → Type 0
Gives shows expected (Ok b) = expected ≡ Ok (shows b)
Gives shows expected (Err f) = f ≢ fault.Memory → expected ≡ Err (fault_of f)

abbrev pub texts_shown : Vec (String Global) Global → List (List ℕ)
texts_shown v = map string_bytes v.items
