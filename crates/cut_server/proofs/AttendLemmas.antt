-- How the threads of a server end.
use Rattle.std.proofs.Common.{◌≡◌, ◌+◌, ℕ, Result, Ok, Err, refl, sym, ap, subst, add-one}
use Rattle.std.specs.Prelude.{IfErr}
use Rattle.cut_commands.specs.declared.fault.CliFault.{CliFault}
use Rattle.cut_commands.specs.declared.fault.CliFault.TheVariants.{WorkMemory}
use Rattle.cut_faults.specs.Failures.{one_more}
use Rattle.cut_server.specs.Serve.{Calls, Listens, more_given}
use Rattle.cut_server.specs.inside.Serve.{IsOfThreads}

-- where memory ran out no call of a listener failed; else it gave all
pub unheard : {T U : Type 0} (n : ℕ) (x : T) (r : Result U CliFault) (old new : Calls)
    → IfErr r (λ e. e ≡ WorkMemory) → Listens n (Ok x) old new → Listens n r old new
unheard n x (Ok y) old new is listens = listens
unheard {T} {U} n x (Err e) old new is listens =
    subst (λ (f : CliFault). Listens {T = U} n (Err f) old new) (sym is) (ap (λ (c : Calls). c.failed) listens)

-- and that may end them
pub of_memory : {T : Type 0} (r : Result T CliFault) → IfErr r (λ e. e ≡ WorkMemory) → IfErr r IsOfThreads
of_memory (Ok x) is = tt
of_memory (Err e) is = subst IsOfThreads (sym is) tt

-- one connection more
pub one_more_given : (connections n : ℕ) → more_given (connections + 1) n ≡ one_more (more_given connections n)
one_more_given connections n = rw add-one refl
