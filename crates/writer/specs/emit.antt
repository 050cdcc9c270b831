pub use Rattle.writer.specs.store.Text
