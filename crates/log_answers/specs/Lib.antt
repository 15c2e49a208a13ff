pub mod Answers
pub mod bench_answers
