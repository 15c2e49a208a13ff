pub mod Judged
pub mod lent_edit
pub mod lent_record
pub mod row_test
