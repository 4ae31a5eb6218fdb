pub mod BlankLaws
