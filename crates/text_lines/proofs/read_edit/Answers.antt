-- `read_edit` meets its contract. Assumes nothing.
use mathlib.Core.Path.{refl}
use native.Mathlib.Omega.{arith}
use Rattle.text_lines.proofs.Says.{told-kind, told-no_kind}
use Rattle.text_lines.proofs.read_edit.Goals as goal

pub returns-in-105 : goal.returns-in-105
returns-in-105 g c = told-kind _ c.args.bytes.now c.requires c.name_end-name.result c.name_end-name.ensures.0 c.byte_at-letter.ensures 0 (omega arith) c.in-105.is c.read_edit_as.ensures

pub returns-in-115 : goal.returns-in-115
returns-in-115 g c = told-kind _ c.args.bytes.now c.requires c.name_end-name.result c.name_end-name.ensures.0 c.byte_at-letter.ensures 1 (omega arith) c.in-115.is c.read_edit_as-in-115.ensures

pub returns-in-114 : goal.returns-in-114
returns-in-114 g c = told-kind _ c.args.bytes.now c.requires c.name_end-name.result c.name_end-name.ensures.0 c.byte_at-letter.ensures 2 (omega arith) c.in-114.is c.read_edit_as-in-114.ensures

pub returns-in_default : goal.returns-in_default
returns-in_default g c =
    told-no_kind _ c.args.bytes.now c.requires c.name_end-name.result c.name_end-name.ensures.0 c.byte_at-letter.ensures
    (λ e. absurd (omega arith)) (λ e. absurd (omega arith)) (λ e. absurd (omega arith)) refl
