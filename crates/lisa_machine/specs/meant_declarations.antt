pub use Rattle.meant_declarations.specs.Meant
