use Rattle.std.proofs.Common.{subst}
use Rattle.planus_write.specs.Preparing.{WritesText, WritesByteList}
use Rattle.planus_write.specs.declared.offset.Text.{Text}
use Rattle.planus_write.specs.declared.offset.List.{List as ListOf}
use Rattle.planus_write.specs.declared.offset.Offset.{Offset}
use Rattle.planus.specs.inner.Names.{offset_named}
use Rattle.planus.specs.inner.Replaying.{WritesValue}
use Rattle.planus.proofs.Stepping.{text_advanced, bytes_advanced}
use Rattle.std.specs.String.{string_bytes}
use Rattle.std.specs.Prelude.{ℕ}
use Rattle.planus.proofs.replaying.state.ReplayState.advance.Goals as goal

pub returns-in-Text : goal.returns-in-Text
returns-in-Text c =
    rw c.in-Text.is (text_advanced (string_bytes c.in-Text.text) c.args.self.now c.write.result c.write.new.self
    (subst (λ words. WritesValue {A = Offset Text} offset_named (WritesText words) c.args.self.now c.write.result c.write.new.self) c.as_str.ensures.value c.write.ensures))

pub returns-in-Bytes : goal.returns-in-Bytes
returns-in-Bytes c =
    rw c.in-Bytes.is (bytes_advanced c.in-Bytes.bytes.items c.args.self.now c.write-in-Bytes.result c.write-in-Bytes.new.self
    (subst (λ content. WritesValue {A = Offset (ListOf ℕ)} offset_named (WritesByteList content) c.args.self.now c.write-in-Bytes.result c.write-in-Bytes.new.self) c.as_slice.ensures.value c.write-in-Bytes.ensures))

pub returns-in-Clear : goal.returns-in-Clear
returns-in-Clear c = rw c.in-Clear.is c.clear.ensures
