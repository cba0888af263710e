pub use Rattle.lisa_machine.specs.meant_declarations.Meant
