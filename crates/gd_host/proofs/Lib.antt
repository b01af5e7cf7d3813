mod Files
mod Tells
mod Written
