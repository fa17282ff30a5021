pub mod WorkedList
pub mod MoreLists
pub mod Returning
