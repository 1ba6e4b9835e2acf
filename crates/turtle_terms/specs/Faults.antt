-- The faults of IRIs as those of tokens.
use Rattle.std.specs.Prelude.{ℕ}
use Rattle.iri_ref.specs.declared.iri.IriFault.{IriFault}
use Rattle.iri_ref.specs.declared.iri.IriFault.TheVariants.{BadReference, NoMemory as IriNoMemory}
use Rattle.turtle_terms.specs.declared.fault.TurtleKind.TheVariants.{BadIri}
use Rattle.turtle_terms.specs.declared.fault.TurtleFault.{TurtleFault}
use Rattle.turtle_terms.specs.declared.fault.TurtleFault.TheVariants.{Bad, NoMemory}

abbrev pub fault_at : ℕ → IriFault → TurtleFault
fault_at at BadReference = Bad at BadIri
fault_at at IriNoMemory = NoMemory
